use Rattle.std.proofs.Common.{length}
use Rattle.ack_ranges.proofs.Counts.{IsCounted}
use Rattle.ack_ranges.proofs.counting.total_from.Given as goal

abbrev pub invariant-each : goal.invariant-each
invariant-each l = IsCounted l.from l.ranges.entries l.left l.low l.count

abbrev pub decreases-each : goal.decreases-each
decreases-each l = length l.left
