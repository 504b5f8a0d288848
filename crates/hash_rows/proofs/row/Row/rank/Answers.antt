use Rattle.hash_rows.proofs.Marks.{rank_found, rank_missing}
use Rattle.hash_rows.proofs.row.Row.rank.Goals as goal

pub returns-in-Ok-clause-some : goal.returns-in-Ok-clause-some
returns-in-Ok-clause-some c =
    rank_found c.args.self.now.places.items c.deref.result.now c.args.index c.in-Ok.rank c.deref.ensures.value c.args.self.now.rises c.in-Ok.ensures.position

pub returns-in-Err-clause-none : goal.returns-in-Err-clause-none
returns-in-Err-clause-none c =
    rank_missing c.args.self.now.places.items c.deref.result.now c.args.index c.in-Err.field-0 c.deref.ensures.value c.args.self.now.rises c.in-Err.ensures.position
