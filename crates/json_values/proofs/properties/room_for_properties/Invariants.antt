use Rattle.std.proofs.Common.{◌≤◌, ◌+◌, ◌*◌, length, map}
use Rattle.std.specs.Map.Iter.{deref_pair}
use Rattle.json_values.proofs.Lengths.{written}
use Rattle.json_values.proofs.properties.room_for_properties.Given as goal

abbrev pub invariant-loop-name : goal.invariant-loop-name
invariant-loop-name l = record {
  enough : 2 + length (written (map deref_pair l.yielded)) ≤ l.room;
  small : l.room ≤ 2 + 7680 * length l.yielded;
}
