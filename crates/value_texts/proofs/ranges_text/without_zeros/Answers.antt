use Rattle.std.proofs.Common.{◌≡◌, ◌∙◌, ℕ, ◌≤◌, List, [], ◌∷◌, arith, refl, length}
use Rattle.value_texts.specs.RangesText.{without_zeros}
use Rattle.value_texts.proofs.ranges_text.without_zeros.Goals as goal

stands : (xs : List ℕ) → length xs ≤ 1 → xs ≡ without_zeros xs
stands [] short = refl
stands (b ∷ []) short = refl
stands (b ∷ c ∷ bs) short = absurd (omega (arith, short))

pub returns-after-loop-left : goal.returns-after-loop-left
returns-after-loop-left c = stands c.loop-left.left.now c.loop-left-test.false ∙ c.loop-left.invariant
