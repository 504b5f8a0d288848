use Rattle.std.proofs.Common.{◌≡◌, ◌++◌, map}
use Rattle.std.specs.Map.Iter.{deref_pair}
use Rattle.pending_core.specs.Kept.{count_in, found_in}
use Rattle.pending_core.proofs.table.counts_of.Given as goal

abbrev pub invariant-loop-position : goal.invariant-loop-position
invariant-loop-position l = record {
  found : l.counts ≡ found_in count_in (map deref_pair l.yielded);
  whole : map deref_pair l.yielded ++ l.position-iterator ≡ l.table.entries;
}
