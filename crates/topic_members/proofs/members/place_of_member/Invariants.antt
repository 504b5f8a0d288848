use Rattle.std.proofs.Common.{◌-◌}
use Rattle.topic_members.proofs.Halving.{IsBetween}
use Rattle.topic_members.proofs.members.place_of_member.Given as goal

abbrev pub invariant-loop-low : goal.invariant-loop-low
invariant-loop-low l = IsBetween l.members l.number l.low l.high

abbrev pub decreases-loop-low : goal.decreases-loop-low
decreases-loop-low l = l.high - l.low
