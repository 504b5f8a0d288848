-- Rows of so many columns.
use Rattle.std.proofs.Common.{◌≡◌, [], ◌∷◌, length, refl, arith}
use Rattle.sqlite.specs.Order.{Row, column}

pub three : (r : Row) → length r ≡ 3 → r ≡ column r 0 ∷ column r 1 ∷ column r 2 ∷ []
three (a ∷ b ∷ c ∷ []) is = refl
three r is = absurd (omega arith)

pub four : (r : Row) → length r ≡ 4 → r ≡ column r 0 ∷ column r 1 ∷ column r 2 ∷ column r 3 ∷ []
four (a ∷ b ∷ c ∷ d ∷ []) is = refl
four r is = absurd (omega arith)

pub ten : (r : Row) → length r ≡ 10 → r ≡ column r 0 ∷ column r 1 ∷ column r 2 ∷ column r 3 ∷ column r 4 ∷ column r 5 ∷ column r 6 ∷ column r 7 ∷ column r 8 ∷ column r 9 ∷ []
ten (a ∷ b ∷ c ∷ d ∷ e ∷ f ∷ g ∷ h ∷ i ∷ j ∷ []) is = refl
ten r is = absurd (omega arith)
