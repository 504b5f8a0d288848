-- What is in a list after a change of the list was in it before, or was changed.
use Rattle.std.proofs.Common.{◌≡◌, ℕ, ◌<◌, List, [], ◌∷◌, map, length, zero, suc, Some, Bool, true, false, cond, get_or, refl, ap, ◌∙◌, sym, arith, ◌⊎◌, inl, inr, true≢false}
use Rattle.std.specs.List.{Contains, find}
use Rattle.std.specs.List.Sorted.{IsStrictlySortedBy}
use Rattle.std.specs.Cmp.{IsTotalOrder}
use Rattle.std.specs.declared.cmp.Ordering.{Ordering}
use Rattle.delivery_machine.specs.Words.{changed, removed}
use Rattle.delivery_machine.proofs.Firsts.{found_contained}
use Rattle.delivery_machine.proofs.Rising.{keys_above, below_itself}

module _ {A : Type 0} where
  pub contained_later : (x : A) (xs : List A) (y : A) → Contains xs y → Contains (x ∷ xs) y
  contained_later x xs y at = let below = at.1 in (suc at.0, omega arith, at.2)

  pub contained_cases : (x : A) (xs : List A) (y : A) → Contains (x ∷ xs) y → (x ≡ y) ⊎ Contains xs y
  contained_cases x xs y at = by at.0 at.1 at.2
    where
      by : (k : ℕ) → k < length (x ∷ xs) → get_or (x ∷ xs) k y ≡ y → (x ≡ y) ⊎ Contains xs y
      by zero below is = inl is
      by (suc k) below is = inr (k, omega arith, is)

  pub contained_removed : (q : A → Bool) (xs : List A) (y : A) → Contains (removed q xs) y → Contains xs y
  contained_removed q [] y at = at
  contained_removed q (x ∷ xs) y at = by (q x) at (contained_removed q xs y)
    where
      by : (b : Bool) → Contains (cond b xs (x ∷ removed q xs)) y → (Contains (removed q xs) y → Contains xs y) → Contains (x ∷ xs) y
      by true at rest = contained_later x xs y at
      by false at rest = elim (contained_cases x (removed q xs) y at) [
        | inl is ↦ (0, omega arith, is)
        | inr later ↦ contained_later x xs y (rest later)
      ]

  -- another one, or the one that was changed
  abbrev pub IsAmongChanged : (A → Bool) → (A → A) → List A → A → Type 0
  IsAmongChanged q f xs y = Contains xs y ⊎ ((x : A) × (find q xs ≡ Some x) × (y ≡ f x))

  pub contained_changed : (q : A → Bool) (f : A → A) (xs : List A) (y : A) → Contains (changed q f xs) y → IsAmongChanged q f xs y
  contained_changed q f [] y at = inl at
  contained_changed q f (x ∷ xs) y at = by (q x) at (contained_changed q f xs y)
    where
      by : (b : Bool) → Contains (cond b (f x ∷ xs) (x ∷ changed q f xs)) y → (Contains (changed q f xs) y → IsAmongChanged q f xs y) → Contains (x ∷ xs) y ⊎ ((z : A) × (cond b (Some x) (find q xs) ≡ Some z) × (y ≡ f z))
      by true at rest = elim (contained_cases (f x) xs y at) [
        | inl is ↦ inr (x, refl, sym is)
        | inr later ↦ inl (contained_later x xs y later)
      ]
      by false at rest = elim (contained_cases x (changed q f xs) y at) [
        | inl is ↦ inl (0, omega arith, is)
        | inr later ↦ elim (rest later) [
          | inl a ↦ inl (contained_later x xs y a)
          | inr b ↦ inr b
        ]
      ]

  -- of two keys that rise, what is left has another key than the one that was taken out
  pub key_differs : {K : Type 0} (c : K → K → Ordering) → IsTotalOrder c → (key : A → K) (q : A → Bool) (xs : List A) (x y : A) → IsStrictlySortedBy c (map key xs)
      → find q xs ≡ Some x → Contains (removed q xs) y → key y ≡ key x → ⊥
  unfolding IsStrictlySortedBy
  key_differs c total key q [] x y rising found at same = cc
  key_differs {K} c total key q (z ∷ zs) x y rising found at same = by (q z) found at (λ found at. key_differs c total key q zs x y rising.1 found at same)
    where
      by : (b : Bool) → cond b (Some z) (find q zs) ≡ Some x → Contains (cond b zs (z ∷ removed q zs)) y → (find q zs ≡ Some x → Contains (removed q zs) y → ⊥) → ⊥
      by true found at rest =
          let is : z ≡ x = cc in
          below_itself total (key z) (ap (c (key z)) (ap key is ∙ sym same) ∙ keys_above c key (key z) zs y rising.0 at)
      by false found at rest = elim (contained_cases z (removed q zs) y at) [
        | inl is ↦ below_itself total (key z) (ap (c (key z)) (ap key is ∙ same) ∙ keys_above c key (key z) zs x rising.0 (found_contained q zs x found))
        | inr later ↦ rest found later
      ]

  -- each is the first that is found by its key
  pub found_by_key : {K : Type 0} (c : K → K → Ordering) → IsTotalOrder c → (key : A → K) (q : A → Bool) (xs : List A) (y : A) → ((z : A) → q z ≡ true → key z ≡ key y) → IsStrictlySortedBy c (map key xs)
      → q y ≡ true → Contains xs y → find q xs ≡ Some y
  unfolding IsStrictlySortedBy
  found_by_key c total key q [] y tests rising passes at = let below = at.1 in absurd (omega arith)
  found_by_key {K} c total key q (z ∷ zs) y tests rising passes at = by (q z) refl (found_by_key c total key q zs y tests rising.1 passes)
    where
      by : (b : Bool) → q z ≡ b → (Contains zs y → find q zs ≡ Some y) → cond b (Some z) (find q zs) ≡ Some y
      by true t rest = elim (contained_cases z zs y at) [
        | inl is ↦ ap Some is
        | inr later ↦ absurd (below_itself total (key z) (ap (c (key z)) (tests z t) ∙ keys_above c key (key z) zs y rising.0 later))
      ]
      by false f rest = elim (contained_cases z zs y at) [
        | inl is ↦ absurd (true≢false (sym passes ∙ sym (ap q is) ∙ f))
        | inr later ↦ rest later
      ]

pub contained_mapped : {A B : Type 0} (f : B → A) (xs : List B) (y : A) → Contains (map f xs) y → (x : B) × Contains xs x × (y ≡ f x)
contained_mapped f [] y at = let below = at.1 in absurd (omega arith)
contained_mapped f (x ∷ xs) y at = elim (contained_cases (f x) (map f xs) y at) [
  | inl is ↦ (x, (0, omega arith, refl), sym is)
  | inr later ↦ let rest = contained_mapped f xs y later in (rest.0, contained_later x xs rest.0 rest.1, rest.2)
]
