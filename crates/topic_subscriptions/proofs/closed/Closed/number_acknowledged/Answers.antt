use Rattle.std.proofs.Common.{arith}
use Rattle.topic_subscriptions.proofs.Outcomes.{parted}
use Rattle.topic_subscriptions.proofs.closed.Closed.number_acknowledged.Goals as goal

pub overflow_sub-result : goal.overflow_sub-result
overflow_sub-result c = omega (arith, parted c.self.inside.all c.self.inside.owed.places c.self.invariant.within, c.self.invariant.counted)

pub returns : goal.returns
returns c = rw (← c.self.view_is) (omega (arith, parted c.self.inside.all c.self.inside.owed.places c.self.invariant.within, c.self.invariant.counted))
