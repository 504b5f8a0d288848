use Rattle.std.proofs.Common.{length}
use Rattle.ack_ranges.specs.Kept.{Swallows}
use Rattle.ack_ranges.proofs.swallowing.take_up_to.Given as goal

abbrev pub invariant-taking : goal.invariant-taking
invariant-taking l = Swallows l.initial.ranges.entries l.end l.ranges.entries l.taken.end l.taken.count

abbrev pub decreases-taking : goal.decreases-taking
decreases-taking l = length l.ranges.entries
