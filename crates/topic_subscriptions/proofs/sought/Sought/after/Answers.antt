use Rattle.std.proofs.Common.{◌∙◌, ap}
use Rattle.topic_subscriptions.specs.Closed.{outcomes_of}
use Rattle.topic_subscriptions.proofs.Outcomes.{went_on}
use Rattle.topic_subscriptions.proofs.sought.Sought.after.Goals as goal

pub returns-in-Ok : goal.returns-in-Ok
returns-in-Ok c =
    went_on c.in-Ok.closed c.new.result c.args.end c.args.dead.now
    (c.in-Ok.ensures ∙ ap (λ s. outcomes_of s c.args.dead.now) c.reset.ensures) c.new.ensures
