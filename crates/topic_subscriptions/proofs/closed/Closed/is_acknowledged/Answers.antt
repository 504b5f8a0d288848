use Rattle.std.proofs.Common.{true, false, refl, ◌∙◌}
use Rattle.std.specs.FinSet as set
use Rattle.topic_subscriptions.proofs.Outcomes.{acknowledged_is}
use Rattle.topic_subscriptions.proofs.closed.Closed.is_acknowledged.Goals as goal

pub returns-then-contains : goal.returns-then-contains
returns-then-contains c = rw (← c.self.view_is) (acknowledged_is c.self.inside.all c.self.inside.owed.places c.args.place true c.has.result c.if-contains.ensures c.has.ensures)

pub returns-else-contains : goal.returns-else-contains
returns-else-contains c = rw (← c.self.view_is) (c.if-contains.false ∙ acknowledged_is c.self.inside.all c.self.inside.owed.places c.args.place false (set.contains c.self.inside.owed.places c.args.place) c.if-contains.ensures refl)
