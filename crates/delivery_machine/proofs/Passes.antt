-- What a filter keeps passes its test.
use Rattle.std.proofs.Common.{◌≡◌, ℕ, suc, zero, ◌<◌, List, [], ◌∷◌, Bool, true, false, cond, get_or, length, refl, sym, ap, ◌∙◌, arith}
use Rattle.std.specs.List.{filter, Contains}

each_passes : {A : Type 0} (p : A → Bool) (xs : List A) (k : ℕ) (d : A) → k < length (filter p xs) → p (get_or (filter p xs) k d) ≡ true
each_passes p [] k d below = absurd (omega (arith, below))
each_passes {A} p (x ∷ xs) k d below = by_case (each_passes p xs) (p x) refl k below
  where
    by_case : ((j : ℕ) (d : A) → j < length (filter p xs) → p (get_or (filter p xs) j d) ≡ true) → (b : Bool) → p x ≡ b → (j : ℕ) → j < length (cond b (x ∷ filter p xs) (filter p xs)) → p (get_or (cond b (x ∷ filter p xs) (filter p xs)) j d) ≡ true
    by_case rest true is zero low = is
    by_case rest true is (suc j) low = rest j d (omega (arith, low))
    by_case rest false is j low = rest j d low

pub passes : {A : Type 0} (p : A → Bool) (xs : List A) (x : A) → Contains (filter p xs) x → p x ≡ true
passes p xs x at = ap p (sym at.2) ∙ each_passes p xs at.0 x at.1
