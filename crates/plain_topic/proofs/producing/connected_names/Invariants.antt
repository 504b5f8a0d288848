use Rattle.std.proofs.Common.{◌≡◌, map, take}
use Rattle.plain_topic.proofs.producing.connected_names.Given as goal

abbrev pub invariant-loop-producer : goal.invariant-loop-producer
invariant-loop-producer l = l.names.items ≡ map (λ p. p.name) (take l.producer-index l.producers)
