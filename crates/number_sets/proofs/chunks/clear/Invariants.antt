use Rattle.std.proofs.Common.{length, ◌-◌, ◌≡◌, ℕ, ◌<◌}
use Rattle.number_sets.specs.Nodes.{nothing}
use Rattle.number_sets.specs.Firsts.{leaf_in, room_in}
use Rattle.number_sets.proofs.chunks.clear.Given as goal

abbrev pub invariant-loop-chunk : goal.invariant-loop-chunk
invariant-loop-chunk l = record {
  leaves : (c k : ℕ) → c < l.chunk → leaf_in l.chunks c k ≡ nothing;
  room : (c : ℕ) → room_in l.chunks c ≡ room_in l.fn.chunks c;
}

abbrev pub decreases-loop-chunk : goal.decreases-loop-chunk
decreases-loop-chunk l = length l.initial.chunks - l.chunk
