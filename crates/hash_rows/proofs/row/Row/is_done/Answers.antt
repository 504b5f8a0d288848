use Rattle.std.proofs.lemmas.Bool.{not-true}
use Rattle.hash_rows.proofs.From.{none_as_far}
use Rattle.hash_rows.proofs.row.Row.is_done.Goals as goal

pub returns : goal.returns
returns c is =
    none_as_far c.args.self.now.places.items c.args.base (c.reaches.ensures.no (not-true c.reaches.result is))
