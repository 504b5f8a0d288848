use Rattle.std.proofs.Common.{length}
use Rattle.hash_ranges.proofs.Shares.{IsLargest}
use Rattle.hash_ranges.proofs.ends.largest_of.Given as goal

abbrev pub invariant-each : goal.invariant-each
invariant-each l = IsLargest l.fn.ends.entries l.from l.left l.largest

abbrev pub decreases-each : goal.decreases-each
decreases-each l = length l.left
