use Rattle.std.proofs.Common.{sym, ◌∙◌}
use Rattle.topic_subscriptions.proofs.Outcomes.{all_acknowledged}
use Rattle.topic_subscriptions.proofs.closed.Closed.acknowledged.Goals as goal

pub returns-in-Ok : goal.returns-in-Ok
returns-in-Ok c = rw (← c.self.view_is) (c.in-Ok.ensures.cases ∙ sym (all_acknowledged c.self.inside.all c.self.inside.owed.places c.self.inside.owed_count c.self.invariant c.if-self-eq0.true))
