-- How many of the first messages are earlier.
use Rattle.std.proofs.Common.{◌≡◌, ℕ, zero, suc, ◌+◌, List, [], ◌∷◌, take, Bool, true, false, cond, arith}
use Rattle.std.specs.Prelude.{min, not}
use Rattle.std.specs.List.{position_or_len}

pub first_of_taken : {A : Type 0} (p : A → Bool) (n : ℕ) (xs : List A) → min n (position_or_len p xs) ≡ position_or_len p (take n xs)
first_of_taken p zero xs = omega arith
first_of_taken p (suc n) [] = omega arith
first_of_taken p (suc n) (x ∷ xs) = by (p x) (position_or_len p xs) (position_or_len p (take n xs)) (first_of_taken p n xs)
  where
    by : (b : Bool) (i j : ℕ) → min n i ≡ j → min (suc n) (cond (not b) (1 + i) 0) ≡ cond (not b) (1 + j) 0
    by true i j is = omega arith
    by false i j is = omega (arith, is)
