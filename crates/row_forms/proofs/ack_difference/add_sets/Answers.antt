use Rattle.std.proofs.lemmas.Result.{on_ok_weaker}
use Rattle.row_forms.proofs.ack_difference.add_sets.Goals as goal

pub returns : goal.returns
returns c =
    on_ok_weaker c.add_runs.result (λ extends. (c.ranges-2.result, c.ranges-3.result, c.ranges-2.ensures, c.ranges-3.ensures, rw (← c.of.ensures.lefts, ← c.of.ensures.rights, ← c.of.ensures.gone) extends)) c.add_runs.ensures
