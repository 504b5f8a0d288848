use Rattle.std.proofs.Common.{length, ◌+◌, ◌-◌, ◌≡◌, ℕ, ◌≤◌, vec_len}
use Rattle.number_sets.specs.Firsts.{leaf_in, room_in}
use Rattle.number_sets.proofs.chunks.add_chunks.Given as goal

abbrev pub invariant-loop-chunks : goal.invariant-loop-chunks
invariant-loop-chunks l = record {
  few : length l.chunks.items ≤ 256;
  leaves : (c k : ℕ) → leaf_in l.chunks.items c k ≡ leaf_in l.fn.chunks.items c k;
  room : (c : ℕ) → room_in l.chunks.items c ≡ room_in l.fn.chunks.items c;
}

abbrev pub decreases-loop-chunks : goal.decreases-loop-chunks
decreases-loop-chunks l = l.fn.chunk + 1 - vec_len l.chunks
