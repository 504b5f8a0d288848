use Rattle.hash_rows.proofs.From.{found_start, missed_start}
use Rattle.hash_rows.proofs.row.Row.start.Goals as goal

pub returns-in-Ok : goal.returns-in-Ok
returns-in-Ok c =
    found_start c.args.self.now.places.items c.deref.result.now c.args.base c.in-Ok.rank c.deref.ensures.value c.args.self.now.rises c.in-Ok.ensures.position

pub returns-in-Err : goal.returns-in-Err
returns-in-Err c =
    missed_start c.args.self.now.places.items c.deref.result.now c.args.base c.in-Err.rank c.deref.ensures.value c.args.self.now.rises c.in-Err.ensures.position
