-- What stands at a place after a list was written to, grown or shortened at a place.
use Rattle.std.proofs.Common.{◌≡◌, ℕ, zero, suc, ◌<◌, ◌≤◌, List, [], ◌∷◌, ◌++◌, Some, set, length, refl, ap, arith}
use Rattle.std.specs.Prelude.{◌≢◌, slice_get}
use Rattle.std.specs.List.{insert, remove}

module _ {A : Type 0} where
  pub set_at : (xs : List A) (i : ℕ) (y : A) → i < length xs → slice_get (set xs i y) i ≡ Some y
  set_at [] i y low = absurd (omega arith)
  set_at (x ∷ xs) zero y low = refl
  set_at (x ∷ xs) (suc i) y low = set_at xs i y (omega arith)

  pub set_other : (xs : List A) (i k : ℕ) (y : A) → k ≢ i → slice_get (set xs i y) k ≡ slice_get xs k
  set_other [] i k y other = refl
  set_other (x ∷ xs) zero zero y other = absurd (other refl)
  set_other (x ∷ xs) zero (suc k) y other = refl
  set_other (x ∷ xs) (suc i) zero y other = refl
  set_other (x ∷ xs) (suc i) (suc k) y other = set_other xs i k y (λ same. other (ap (λ n. suc n) same))

  pub inserted_at : (xs : List A) (i : ℕ) (y : A) → i ≤ length xs → slice_get (insert xs i y) i ≡ Some y
  inserted_at xs zero y low = refl
  inserted_at [] (suc i) y low = absurd (omega arith)
  inserted_at (x ∷ xs) (suc i) y low = inserted_at xs i y (omega arith)

  pub inserted_before : (xs : List A) (i k : ℕ) (y : A) → k < i → i ≤ length xs → slice_get (insert xs i y) k ≡ slice_get xs k
  inserted_before xs zero k y before low = absurd (omega arith)
  inserted_before [] (suc i) k y before low = absurd (omega arith)
  inserted_before (x ∷ xs) (suc i) zero y before low = refl
  inserted_before (x ∷ xs) (suc i) (suc k) y before low = inserted_before xs i k y (omega arith) (omega arith)

  pub inserted_after : (xs : List A) (i k : ℕ) (y : A) → i ≤ k → i ≤ length xs → slice_get (insert xs i y) (suc k) ≡ slice_get xs k
  inserted_after xs zero k y after low = refl
  inserted_after [] (suc i) k y after low = absurd (omega arith)
  inserted_after (x ∷ xs) (suc i) zero y after low = absurd (omega arith)
  inserted_after (x ∷ xs) (suc i) (suc k) y after low = inserted_after xs i k y (omega arith) (omega arith)

  pub removed_before : (xs : List A) (i k : ℕ) → k < i → i < length xs → slice_get (remove xs i) k ≡ slice_get xs k
  removed_before xs zero k before low = absurd (omega arith)
  removed_before [] (suc i) k before low = absurd (omega arith)
  removed_before (x ∷ xs) (suc i) zero before low = refl
  removed_before (x ∷ xs) (suc i) (suc k) before low = removed_before xs i k (omega arith) (omega arith)

  pub removed_after : (xs : List A) (i k : ℕ) → i ≤ k → i < length xs → slice_get (remove xs i) k ≡ slice_get xs (suc k)
  removed_after [] i k after low = absurd (omega arith)
  removed_after (x ∷ xs) zero k after low = refl
  removed_after (x ∷ xs) (suc i) zero after low = absurd (omega arith)
  removed_after (x ∷ xs) (suc i) (suc k) after low = removed_after xs i k (omega arith) (omega arith)

  -- what stands below the length
  pub there : (xs : List A) (k : ℕ) → k < length xs → (x : A) × (slice_get xs k ≡ Some x)
  there [] k low = absurd (omega arith)
  there (x ∷ xs) zero low = (x, refl)
  there (x ∷ xs) (suc k) low = there xs k (omega arith)

  pub appended_before : (xs : List A) (y : A) (k : ℕ) → k < length xs → slice_get (xs ++ y ∷ []) k ≡ slice_get xs k
  appended_before [] y k low = absurd (omega arith)
  appended_before (x ∷ xs) y zero low = refl
  appended_before (x ∷ xs) y (suc k) low = appended_before xs y k (omega arith)

  pub appended_at : (xs : List A) (y : A) → slice_get (xs ++ y ∷ []) (length xs) ≡ Some y
  appended_at [] y = refl
  appended_at (x ∷ xs) y = appended_at xs y
