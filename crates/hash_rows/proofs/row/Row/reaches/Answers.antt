use Rattle.hash_rows.proofs.Marks.{last_reaches}
use Rattle.hash_rows.proofs.row.Row.reaches.Goals as goal

pub returns-in-Some-clause-yes : goal.returns-in-Some-clause-yes
returns-in-Some-clause-yes c =
    last_reaches c.args.self.now.places.items c.deref.result.now c.args.index c.in-Some.last.now c.deref.ensures.value c.args.self.now.rises c.in-Some.ensures.value
