use Rattle.std.proofs.Common.{ap, ◌∙◌}
use Rattle.std.specs.Prelude.{not}
use Rattle.topic_subscriptions.proofs.Outcomes.{open_is}
use Rattle.topic_subscriptions.proofs.closed.Closed.next_open.Goals as goal

pub returns-clause-is_open : goal.returns-clause-is_open
returns-clause-is_open c = rw (← c.self.view_is) (open_is c.self.inside.all c.self.inside.owed.places c.self.invariant.within c.next_missing.result ∙ ap not c.next_missing.ensures.missing)

pub returns-clause-least : goal.returns-clause-least
returns-clause-least c = rw (← c.self.view_is) (λ k from to. open_is c.self.inside.all c.self.inside.owed.places c.self.invariant.within k ∙ ap not (c.next_missing.ensures.before k from to))
