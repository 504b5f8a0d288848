use Rattle.std.proofs.Common.{◌≡◌, map, take}
use Rattle.topic_subscriptions.specs.Placed.{kept_of}
use Rattle.topic_core.proofs.saving.kept_of_all.Given as goal

abbrev pub invariant-loop-subscription : goal.invariant-loop-subscription
invariant-loop-subscription l = l.kept.items ≡ map kept_of (take l.subscription-index l.subscriptions)
