-- An element of a list, by its index, after a change of the list.
use Rattle.std.proofs.Common.{◌≡◌, ◌≢◌, ℕ, ◌+◌, ◌-◌, ◌<◌, ◌≤◌, zero, suc, List, [], ◌∷◌, ◌++◌, length, take, set, Some, None, refl, sym, ◌∙◌, arith, ap}
use Rattle.std.specs.List.{slice_get, swap_remove}
use Rattle.std.proofs.lemmas.Option.{slice_get-get_or, same_Some}

pub slice_get-set_same : {A : Type 0} (xs : List A) (i : ℕ) (x : A) → i < length xs → slice_get (set xs i x) i ≡ Some x
slice_get-set_same [] i x h = absurd (omega arith)
slice_get-set_same (y ∷ ys) zero x h = refl
slice_get-set_same (y ∷ ys) (suc i) x h = slice_get-set_same ys i x (omega arith)

pub slice_get-set_other : {A : Type 0} (xs : List A) (i k : ℕ) (x : A) → k ≢ i → slice_get (set xs i x) k ≡ slice_get xs k
slice_get-set_other [] i k x h = refl
slice_get-set_other (y ∷ ys) zero zero x h = absurd (h refl)
slice_get-set_other (y ∷ ys) zero (suc k) x h = refl
slice_get-set_other (y ∷ ys) (suc i) zero x h = refl
slice_get-set_other (y ∷ ys) (suc i) (suc k) x h = slice_get-set_other ys i k x (λ e. h (ap suc e))

pub set-slice_get : {A : Type 0} (xs : List A) (i : ℕ) (x : A) → slice_get xs i ≡ Some x → set xs i x ≡ xs
set-slice_get [] i x h = refl
set-slice_get (y ∷ ys) zero x h = ap (λ z. z ∷ ys) (sym (same_Some y x h))
set-slice_get (y ∷ ys) (suc i) x h = ap (λ zs. y ∷ zs) (set-slice_get ys i x h)

pub slice_get_push_end : {A : Type 0} (xs : List A) (x : A) → slice_get (xs ++ x ∷ []) (length xs) ≡ Some x
slice_get_push_end [] x = refl
slice_get_push_end (y ∷ ys) x = slice_get_push_end ys x

pub slice_get_push_other : {A : Type 0} (xs : List A) (x : A) (k : ℕ) → k ≢ length xs → slice_get (xs ++ x ∷ []) k ≡ slice_get xs k
slice_get_push_other [] x zero h = absurd (h refl)
slice_get_push_other [] x (suc k) h = refl
slice_get_push_other (y ∷ ys) x zero h = refl
slice_get_push_other (y ∷ ys) x (suc k) h = slice_get_push_other ys x k (λ e. h (ap suc e))

pub slice_get-take : {A : Type 0} (n : ℕ) (xs : List A) (k : ℕ) → k < n → slice_get (take n xs) k ≡ slice_get xs k
slice_get-take zero xs k h = absurd (omega arith)
slice_get-take (suc n) [] k h = refl
slice_get-take (suc n) (x ∷ xs) zero h = refl
slice_get-take (suc n) (x ∷ xs) (suc k) h = slice_get-take n xs k (omega arith)

pub slice_get-take_past : {A : Type 0} (n : ℕ) (xs : List A) (k : ℕ) → n ≤ k → slice_get (take n xs) k ≡ None
slice_get-take_past zero xs k h = refl
slice_get-take_past (suc n) [] k h = refl
slice_get-take_past (suc n) (x ∷ xs) zero h = absurd (omega arith)
slice_get-take_past (suc n) (x ∷ xs) (suc k) h = slice_get-take_past n xs k (omega arith)

-- after `swap_remove(i)`
module _ {A : Type 0} (xs : List A) (i : ℕ) (d : A) where
  pub slice_get-swap_remove_past : (k : ℕ) → length xs ≤ k + 1 → slice_get (swap_remove xs i d) k ≡ None
  slice_get-swap_remove_past k h = slice_get-take_past (length xs - 1) _ k (omega arith)

  pub slice_get-swap_remove_other : (k : ℕ) → k + 1 < length xs → k ≢ i → slice_get (swap_remove xs i d) k ≡ slice_get xs k
  slice_get-swap_remove_other k h ne = slice_get-take (length xs - 1) _ k (omega arith) ∙ slice_get-set_other xs i k _ ne

  pub slice_get-swap_remove_same : i + 1 < length xs → slice_get (swap_remove xs i d) i ≡ slice_get xs (length xs - 1)
  slice_get-swap_remove_same h =
      slice_get-take (length xs - 1) _ i (omega arith)
      ∙ slice_get-set_same xs i _ (omega arith)
      ∙ sym (slice_get-get_or xs (length xs - 1) d (omega arith))
