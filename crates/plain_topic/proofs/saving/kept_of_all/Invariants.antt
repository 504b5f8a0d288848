use Rattle.std.proofs.Common.{◌≡◌, length, map, take}
use Rattle.std.specs.List.{All}
use Rattle.delivery_machine.specs.Places.{AreBelow, KeptPlaces, kept_in}
use Rattle.delivery_machine.specs.Snapshot.{kept_of}
use Rattle.plain_topic.proofs.saving.kept_of_all.Given as goal

abbrev pub invariant-loop-subscription : goal.invariant-loop-subscription
invariant-loop-subscription l =
    (map (kept_in l.log) l.kept.items ≡ map kept_of (take l.subscription-index l.subscriptions))
    × All (λ (sub : KeptPlaces). AreBelow (length l.log) sub.acknowledged) l.kept.items
