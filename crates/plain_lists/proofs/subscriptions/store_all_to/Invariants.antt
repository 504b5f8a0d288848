use Rattle.std.proofs.Common.{◌≡◌, ◌++◌, take, drop, map}
use Rattle.delivery_machine.specs.Producing.{storing_below}
use Rattle.plain_lists.proofs.subscriptions.store_all_to.Given as goal

abbrev pub invariant-loop-subscription : goal.invariant-loop-subscription
invariant-loop-subscription l = l.subscriptions ≡ map (storing_below l.ordinal) (take l.subscription-index l.initial.subscriptions) ++ drop l.subscription-index l.initial.subscriptions
