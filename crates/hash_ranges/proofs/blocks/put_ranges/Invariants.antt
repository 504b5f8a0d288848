use Rattle.std.proofs.Common.{◌≡◌, ◌+◌, ◌≤◌, length, take, vec_len, vec_capacity}
use Rattle.delivery_machine.specs.Shares.{with_ranges}
use Rattle.hash_ranges.proofs.blocks.put_ranges.Given as goal

abbrev pub invariant-loop-range : goal.invariant-loop-range
invariant-loop-range l = record {
  so_far : l.blocks.items ≡ with_ranges l.consumer (take l.range-index l.ranges) l.initial.blocks.items;
  room : vec_len l.blocks + length l.ranges ≤ vec_capacity l.blocks + l.range-index;
}
