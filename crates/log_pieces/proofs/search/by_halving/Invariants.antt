use Rattle.std.proofs.Common.{◌-◌}
use Rattle.log_pieces.specs.Pieces.{joined}
use Rattle.log_pieces.proofs.Searching.{IsBetween}
use Rattle.log_pieces.proofs.search.by_halving.Given as goal

abbrev pub invariant-loop-low : goal.invariant-loop-low
invariant-loop-low l = IsBetween (joined l.pieces) l.at l.low l.high

abbrev pub decreases-loop-low : goal.decreases-loop-low
decreases-loop-low l = l.high - l.low
