use Rattle.std.proofs.Common.{◌≡◌, All, [], map, take}
use Rattle.delivery_machine.specs.Places.{kept_in}
use Rattle.delivery_machine.specs.Snapshot.{subscription_from}
use Rattle.topic_subscriptions.specs.Placed.{IsPlacedIn, sub_in}
use Rattle.topic_core.specs.Restored.{IsAlone}
use Rattle.topic_core.proofs.restoring.subscriptions_over.Given as goal

abbrev pub invariant-loop-one : goal.invariant-loop-one
invariant-loop-one l = record {
  state : map (sub_in l.log.log.log) l.subscriptions.items ≡ map (λ k. subscription_from (kept_in l.log.log.log k)) (take l.one-index l.kept);
  placed : All (IsPlacedIn l.log.log.log []) l.subscriptions.items;
  alone : All IsAlone l.subscriptions.items;
}
