use Rattle.handover.proofs.Moves.{takes_as}
use Rattle.handover.proofs.queue.Taker.try_take.Goals as goal

pub try_recv_as-requires-clause-rule : goal.try_recv_as-requires-clause-rule
try_recv_as-requires-clause-rule g c = (takes_as _ _ c.self.invariant.1, λ items views h at. tt)
