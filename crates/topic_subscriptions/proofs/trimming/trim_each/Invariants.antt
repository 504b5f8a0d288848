use Rattle.std.proofs.Common.{◌≡◌, ◌++◌, take, drop, map}
use Rattle.topic_subscriptions.specs.Placed.{trimmed_to}
use Rattle.topic_subscriptions.proofs.trimming.trim_each.Given as goal

abbrev pub invariant-loop-subscription : goal.invariant-loop-subscription
invariant-loop-subscription l = l.subscriptions ≡ map (trimmed_to l.count) (take l.subscription-index l.initial.subscriptions) ++ drop l.subscription-index l.initial.subscriptions
