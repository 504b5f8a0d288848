use Rattle.topic_subscriptions.proofs.Outcomes.{none_owed, begun}
use Rattle.topic_subscriptions.proofs.closed.Closed.of.Goals as goal

pub invariant_of-result : goal.invariant_of-result
invariant_of-result c = rw c.new.ensures (none_owed c.args.acknowledged)

pub returns : goal.returns
returns c = rw c.new.ensures (begun c.args.acknowledged)
