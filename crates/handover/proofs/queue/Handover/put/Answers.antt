use Rattle.std.proofs.Common.{subst, ◌<◌, sym}
use Rattle.handover.specs.Passing.{last_of}
use Rattle.handover.proofs.Moves.{puts_as}
use Rattle.handover.proofs.queue.Handover.put.Goals as goal

pub send_as-requires-clause-rule : goal.send_as-requires-clause-rule
send_as-requires-clause-rule g c = (puts_as _ _ _ _ c.self.invariant.2 (subst (λ l. last_of 0 l < c.args.number) (sym c.self.view_is) c.requires), λ items views h at. tt)
