use Rattle.topic_subscriptions.proofs.Outcomes.{first_of_both, none_owed_first}
use Rattle.topic_subscriptions.proofs.closed.Closed.first_not_acknowledged.Goals as goal

pub returns-in-Some : goal.returns-in-Some
returns-in-Some c = rw (c.min.ensures, ← c.self.view_is) (first_of_both c.self.inside.all c.self.inside.owed.places c.first_missing-open.result c.in-Some.buried c.first_missing-open.ensures c.in-Some.ensures.some)

pub returns-in-None : goal.returns-in-None
returns-in-None c = rw (← c.self.view_is) (none_owed_first c.self.inside.all c.self.inside.owed.places c.first_missing-open.result c.first_missing-open.ensures c.in-None.ensures.none)
