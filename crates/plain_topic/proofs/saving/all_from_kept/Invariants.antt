use Rattle.std.proofs.Common.{◌≡◌, map, take}
use Rattle.delivery_machine.specs.Places.{kept_in}
use Rattle.delivery_machine.specs.Snapshot.{subscription_from}
use Rattle.plain_topic.proofs.saving.all_from_kept.Given as goal

abbrev pub invariant-loop-one : goal.invariant-loop-one
invariant-loop-one l = l.subscriptions.items ≡ map (λ k. subscription_from (kept_in l.log k)) (take l.one-index l.kept)
