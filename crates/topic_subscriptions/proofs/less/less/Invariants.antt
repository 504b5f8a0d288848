use Rattle.std.proofs.Common.{length}
use Rattle.topic_subscriptions.proofs.Differing.{SoFar}
use Rattle.topic_subscriptions.proofs.less.less.Given as goal

abbrev pub invariant-each : goal.invariant-each
invariant-each l = SoFar l.all l.owed.places l.left l.ranges

abbrev pub decreases-each : goal.decreases-each
decreases-each l = length l.ranges
