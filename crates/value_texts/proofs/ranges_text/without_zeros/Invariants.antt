use Rattle.std.proofs.Common.{◌≡◌, length}
use Rattle.value_texts.specs.RangesText.{without_zeros}
use Rattle.value_texts.proofs.ranges_text.without_zeros.Given as goal

abbrev pub invariant-loop-left : goal.invariant-loop-left
invariant-loop-left l = without_zeros l.left ≡ without_zeros l.text

abbrev pub decreases-loop-left : goal.decreases-loop-left
decreases-loop-left l = length l.left
