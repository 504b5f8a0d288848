-- Messages that are visible: the first ones of the log.
use Rattle.std.proofs.Common.{◌≡◌, ℕ, zero, suc, ◌<◌, ◌≤◌, List, [], ◌∷◌, length, take, Some, None, Bool, true, false, get_or, refl, ap, ◌∙◌, arith, true≢false}
use Rattle.std.specs.Prelude.{◌||◌, nat_lt}
use Rattle.std.specs.List.{list_any, position}
use Rattle.std.proofs.lemmas.Bool.Decides.{nat_tests}
use Rattle.std.proofs.lemmas.List.Quantifiers.{position-Some}
use Rattle.delivery_machine.proofs.Places.{none_passes}

any_where : {A : Type 0} (p : A → Bool) (n : ℕ) (xs : List A) (i : ℕ) (d : A) → i < length xs → p (get_or xs i d) ≡ true → ((k : ℕ) → k < i → p (get_or xs k d) ≡ false) → list_any p (take n xs) ≡ nat_lt i n
any_where p n [] i d low here before = absurd (omega (arith, low))
any_where p zero (x ∷ xs) i d low here before = none_first i
  where
    none_first : (i : ℕ) → false ≡ nat_lt i 0
    none_first i = grind (arith, nat_tests)
any_where p (suc n) (x ∷ xs) zero d low here before = ap (λ b. b || list_any p (take n xs)) here ∙ zero_first n
  where
    zero_first : (n : ℕ) → true ≡ nat_lt 0 (suc n)
    zero_first n = grind (arith, nat_tests)
any_where p (suc n) (x ∷ xs) (suc i) d low here before =
    ap (λ b. b || list_any p (take n xs)) (before 0 (omega arith))
    ∙ any_where p n xs i d (omega (arith, low)) here (λ k lt. before (suc k) (omega (arith, lt)))
    ∙ less_next i n
  where
    less_next : (i n : ℕ) → nat_lt i n ≡ nat_lt (suc i) (suc n)
    less_next i n = grind (arith, nat_tests)

-- what stands at a place is among the first where the place is
pub any_taken : {A : Type 0} (p : A → Bool) (n : ℕ) (xs : List A) (i : ℕ) → position p xs ≡ Some i → list_any p (take n xs) ≡ nat_lt i n
any_taken p n [] i is = cc
any_taken p n (x ∷ xs) i is = (let at = position-Some p (x ∷ xs) i x is in any_where p n (x ∷ xs) i x at.0 at.1 at.2)

none_in : {A : Type 0} (p : A → Bool) (n : ℕ) (xs : List A) → list_any p xs ≡ false → list_any p (take n xs) ≡ false
none_in p zero xs none = refl
none_in p (suc n) [] none = refl
none_in p (suc n) (x ∷ xs) none = by (p x) none (none_in p n xs)
  where
    by : (b : Bool) → (b || list_any p xs) ≡ false → (list_any p xs ≡ false → list_any p (take n xs) ≡ false) → (b || list_any p (take n xs)) ≡ false
    by true is rest = absurd (true≢false is)
    by false is rest = rest is

pub none_taken : {A : Type 0} (p : A → Bool) (n : ℕ) (xs : List A) → None ≡ position p xs → list_any p (take n xs) ≡ false
none_taken p n xs nowhere = none_in p n xs (none_passes p xs nowhere)

pub below : (i n m : ℕ) → n ≡ m → i < n → nat_lt i m ≡ true
below i n m same low = grind (arith, nat_tests)

pub not_below : (i n m : ℕ) → n ≡ m → n ≤ i → nat_lt i m ≡ false
not_below i n m same high = grind (arith, nat_tests)
