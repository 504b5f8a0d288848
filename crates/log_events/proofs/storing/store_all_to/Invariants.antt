use Rattle.std.proofs.Common.{◌≡◌, ◌++◌, take, drop, map}
use Rattle.topic_subscriptions.specs.Placed.{safe_below_in}
use Rattle.log_events.proofs.storing.store_all_to.Given as goal

abbrev pub invariant-loop-subscription : goal.invariant-loop-subscription
invariant-loop-subscription l = l.subscriptions ≡ map (safe_below_in l.ordinal) (take l.subscription-index l.initial.subscriptions) ++ drop l.subscription-index l.initial.subscriptions
