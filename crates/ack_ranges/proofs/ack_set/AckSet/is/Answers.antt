use Rattle.std.proofs.Common.{ℕ, List, ap, sym, ◌∙◌, subst}
use Rattle.std.specs.FinSet as set
use Rattle.ack_ranges.specs.Ranges.{spread, AreRangesOf}
use Rattle.ack_ranges.proofs.Equal.{ranges_unique}
use Rattle.ack_ranges.proofs.ack_set.AckSet.is.Goals as goal

pub returns : goal.returns
returns c = (
  λ same. c.ranges-2.ensures.numbers ∙ ap (λ (rs : List (ℕ × ℕ)). set.from_list (spread rs)) (c.are_same.ensures.0 same) ∙ sym c.ranges-3.ensures.numbers,
  λ equal. c.are_same.ensures.1 (ranges_unique c.args.other.now _ _ (subst (λ (s : set.FinSet _). AreRangesOf s c.ranges-2.result) equal c.ranges-2.ensures) c.ranges-3.ensures),
)
