use Rattle.std.proofs.Common.{◌≡◌, ◌++◌, take, drop, map}
use Rattle.delivery_machine.specs.Trimming.{without_messages}
use Rattle.plain_lists.proofs.trimming.forget_messages.Given as goal

abbrev pub invariant-loop-subscription : goal.invariant-loop-subscription
invariant-loop-subscription l = l.subscriptions ≡ map (without_messages l.positions) (take l.subscription-index l.initial.subscriptions) ++ drop l.subscription-index l.initial.subscriptions
