use Rattle.std.proofs.Common.{◌<◌, All, length, take}
use Rattle.topic_subscriptions.specs.Placed.{StandAt}
use Rattle.topic_parts.proofs.seeking.places_of.Given as goal

abbrev pub invariant-loop-letter : goal.invariant-loop-letter
invariant-loop-letter l = record {
  stand : StandAt l.log.log.log (take l.letter-index l.letters) l.places.items;
  within : All (λ place. place < length l.log.log.log) l.places.items;
}
