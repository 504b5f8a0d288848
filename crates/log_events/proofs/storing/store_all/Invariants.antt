use Rattle.std.proofs.Common.{◌≡◌, ◌++◌, take, drop, map}
use Rattle.topic_subscriptions.specs.Placed.{all_safe_in}
use Rattle.log_events.proofs.storing.store_all.Given as goal

abbrev pub invariant-loop-subscription : goal.invariant-loop-subscription
invariant-loop-subscription l = l.subscriptions ≡ map all_safe_in (take l.subscription-index l.initial.subscriptions) ++ drop l.subscription-index l.initial.subscriptions
