-- What is found, or stands anywhere, in a list after a change of it.
use Rattle.std.proofs.Common.{◌≡◌, ℕ, ◌<◌, List, [], ◌∷◌, ◌++◌, map, length, suc, zero, Some, None, Option, Bool, true, false, cond, get_or, refl, ap, ◌∙◌, sym, arith, ◌⊎◌, inl, inr}
use Rattle.std.specs.Prelude.{◌||◌, nat_lt, IsSomeAnd, slice_get}
use Rattle.std.specs.List.{find, filter, insert, list_any, Contains, position_or_len}
use Rattle.std.proofs.lemmas.Bool.Decides.{nat_tests}
use Rattle.delivery_machine.specs.Words.{changed, removed}
use Rattle.delivery_machine.proofs.Deciding.{or_second}
use Rattle.std.proofs.lemmas.List.Folds.{find_at}
use Rattle.std.proofs.lemmas.List.Sums.{passes_at_first}
use Rattle.std.proofs.lemmas.Option.{slice_get_within, get_or_from_slice_get}

-- ---- what passes first

module _ {A : Type 0} where
  pub first_of_passing : (b : Bool) (x : A) (o : Option A) → b ≡ true → cond b (Some x) o ≡ Some x
  first_of_passing b x o e = ap (λ t. cond t (Some x) o) e

  pub first_of_failing : (b : Bool) (x : A) (o : Option A) → b ≡ false → cond b (Some x) o ≡ o
  first_of_failing b x o e = ap (λ t. cond t (Some x) o) e

  -- what is found passes
  pub found_passes : (p : A → Bool) (xs : List A) (x : A) → find p xs ≡ Some x → p x ≡ true
  found_passes p [] x h = cc
  found_passes p (y ∷ ys) x h = here (p y) refl h (found_passes p ys x)
    where
      here : (b : Bool) → p y ≡ b → cond b (Some y) (find p ys) ≡ Some x → (find p ys ≡ Some x → p x ≡ true) → p x ≡ true
      here true t h rest = cc
      here false t h rest = rest h

  pub found_contained : (p : A → Bool) (xs : List A) (x : A) → find p xs ≡ Some x → Contains xs x
  found_contained p [] x h = cc
  found_contained p (y ∷ ys) x h = here (p y) h (found_contained p ys x)
    where
      here : (b : Bool) → cond b (Some y) (find p ys) ≡ Some x → (find p ys ≡ Some x → Contains ys x) → Contains (y ∷ ys) x
      here true h rest = let same : y ≡ x = cc in (0, omega arith, same)
      here false h rest = let there = rest h in (suc there.0, omega arith, there.2)

  -- the first that passes p, after the first that passes q is changed: another one, or the one that was changed
  abbrev pub AfterChange : (A → Bool) → (A → Bool) → (A → A) → List A → A → Type 0
  AfterChange p q f xs y =
      ((find p xs ≡ Some y) × (q y ≡ false))
      ⊎ ((x : A) × (find p xs ≡ Some x) × (find q xs ≡ Some x) × (y ≡ f x))

  pub found_changed : (p q : A → Bool) (f : A → A) → ((x : A) → p (f x) ≡ p x) → ((x y : A) → q x ≡ true → p x ≡ false → p y ≡ true → q y ≡ false) → (xs : List A) (y : A) → find p (changed q f xs) ≡ Some y → AfterChange p q f xs y
  found_changed p q f same apart [] y h = cc
  found_changed p q f same apart (x ∷ xs) y h = by (q x) refl (p x) refl h (found_changed p q f same apart xs y)
    where
      by : (b : Bool) → q x ≡ b → (c : Bool) → p x ≡ c → find p (cond b (f x ∷ xs) (x ∷ changed q f xs)) ≡ Some y → (find p (changed q f xs) ≡ Some y → AfterChange p q f xs y) → AfterChange p q f (x ∷ xs) y
      by true qt true pt h rest =
          let is : Some y ≡ Some (f x) = sym h ∙ first_of_passing (p (f x)) (f x) (find p xs) (same x ∙ pt) in
          inr (x, first_of_passing (p x) x (find p xs) pt, first_of_passing (q x) x (find q xs) qt, cc)
      by true qt false pf h rest =
          let later : find p xs ≡ Some y = sym (first_of_failing (p (f x)) (f x) (find p xs) (same x ∙ pf)) ∙ h in
          inl (first_of_failing (p x) x (find p xs) pf ∙ later, apart x y qt pf (found_passes p xs y later))
      by false qf true pt h rest =
          let is : Some y ≡ Some x = sym h ∙ first_of_passing (p x) x (find p (changed q f xs)) pt in
          let same_one : y ≡ x = cc in
          inl (first_of_passing (p x) x (find p xs) pt ∙ sym is, ap q same_one ∙ qf)
      by false qf false pf h rest =
          let later : find p (changed q f xs) ≡ Some y = sym (first_of_failing (p x) x (find p (changed q f xs)) pf) ∙ h in
          let skips : find p (x ∷ xs) ≡ find p xs = first_of_failing (p x) x (find p xs) pf in
          elim (rest later) [
            | inl a ↦ inl (skips ∙ a.0, a.1)
            | inr a ↦ inr (a.0, skips ∙ a.1, first_of_failing (q x) x (find q xs) qf ∙ a.2, a.3)
          ]

  -- what is found in a list after each is changed
  pub found_mapped : (p : A → Bool) (f : A → A) → ((x : A) → p (f x) ≡ p x) → (xs : List A) (y : A) → find p (map f xs) ≡ Some y → (x : A) × (find p xs ≡ Some x) × (y ≡ f x)
  found_mapped p f same [] y h = cc
  found_mapped p f same (x ∷ xs) y h = by (p x) refl h (found_mapped p f same xs y)
    where
      by : (b : Bool) → p x ≡ b → find p (map f (x ∷ xs)) ≡ Some y → (find p (map f xs) ≡ Some y → (z : A) × (find p xs ≡ Some z) × (y ≡ f z)) → (z : A) × (find p (x ∷ xs) ≡ Some z) × (y ≡ f z)
      by true t h rest =
          let is : Some y ≡ Some (f x) = sym h ∙ first_of_passing (p (f x)) (f x) (find p (map f xs)) (same x ∙ t) in
          (x, first_of_passing (p x) x (find p xs) t, cc)
      by false e h rest =
          let later = rest (sym (first_of_failing (p (f x)) (f x) (find p (map f xs)) (same x ∙ e)) ∙ h) in
          (later.0, first_of_failing (p x) x (find p xs) e ∙ later.1, later.2)

  pub found_inserted : (p : A → Bool) (xs : List A) (i : ℕ) (z y : A) → find p (insert xs i z) ≡ Some y → (y ≡ z) ⊎ (find p xs ≡ Some y)
  found_inserted p xs zero z y h = here (p z) h
    where
      here : (b : Bool) → cond b (Some z) (find p xs) ≡ Some y → (y ≡ z) ⊎ (find p xs ≡ Some y)
      here true h = let is : Some y ≡ Some z = sym h in inl cc
      here false h = inr h
  found_inserted p [] (suc i) z y h = here (p z) h
    where
      here : (b : Bool) → cond b (Some z) None ≡ Some y → (y ≡ z) ⊎ (None ≡ Some y)
      here true h = let is : Some y ≡ Some z = sym h in inl cc
      here false h = inr h
  found_inserted p (x ∷ xs) (suc i) z y h = here (p x) h (found_inserted p xs i z y)
    where
      here : (b : Bool) → cond b (Some x) (find p (insert xs i z)) ≡ Some y → (find p (insert xs i z) ≡ Some y → (y ≡ z) ⊎ (find p xs ≡ Some y)) → (y ≡ z) ⊎ (cond b (Some x) (find p xs) ≡ Some y)
      here true h rest = inr h
      here false h rest = rest h

  -- where there is one, and something holds of it
  pub some_elim : (o : Option A) (P : A → Type 0) (Q : Type 0) → IsSomeAnd o P → ((x : A) → o ≡ Some x → P x → Q) → Q
  some_elim None P Q h k = absurd h
  some_elim (Some x) P Q h k = k x refl h

  -- ---- what passes anywhere

  pub any_contained : (p : A → Bool) (xs : List A) (x : A) → Contains xs x → p x ≡ true → list_any p xs ≡ true
  any_contained p [] x at t = let below = at.1 in absurd (omega arith)
  any_contained p (y ∷ ys) x at t = by at.0 at.1 at.2 (λ later. any_contained p ys x later t)
    where
      by : (k : ℕ) → k < length (y ∷ ys) → get_or (y ∷ ys) k x ≡ x → (Contains ys x → list_any p ys ≡ true) → list_any p (y ∷ ys) ≡ true
      by zero below is rest = ap (λ b. b || list_any p ys) (ap p is ∙ t)
      by (suc k) below is rest = or_second (p y) (list_any p ys) (rest (k, omega arith, is))

  -- where none passes, what is contained fails
  pub none_contained : (p : A → Bool) (xs : List A) (x : A) → list_any p xs ≡ false → Contains xs x → p x ≡ false
  none_contained p xs x none at = by (p x) refl
    where
      by : (b : Bool) → p x ≡ b → b ≡ false
      by true t = let any = any_contained p xs x at t in cc
      by false f = refl

  pub any_changed : (p q : A → Bool) (f : A → A) → ((x : A) → p (f x) ≡ p x) → (xs : List A) → list_any p (changed q f xs) ≡ list_any p xs
  any_changed p q f same [] = refl
  any_changed p q f same (x ∷ xs) = by (q x) (any_changed p q f same xs)
    where
      by : (b : Bool) → list_any p (changed q f xs) ≡ list_any p xs → list_any p (cond b (f x ∷ xs) (x ∷ changed q f xs)) ≡ list_any p (x ∷ xs)
      by true rest = ap (λ b. b || list_any p xs) (same x)
      by false rest = ap (λ b. p x || b) rest

  pub any_mapped : (p : A → Bool) (f : A → A) → ((x : A) → p (f x) ≡ p x) → (xs : List A) → list_any p (map f xs) ≡ list_any p xs
  any_mapped p f same [] = refl
  any_mapped p f same (x ∷ xs) = ap (λ b. b || list_any p (map f xs)) (same x) ∙ ap (λ b. p x || b) (any_mapped p f same xs)

  -- the one that is taken out did not pass
  pub any_removed : (p q : A → Bool) (xs : List A) (y : A) → find q xs ≡ Some y → p y ≡ false → list_any p (removed q xs) ≡ list_any p xs
  any_removed p q [] y h f = cc
  any_removed p q (x ∷ xs) y h f = by (q x) h (any_removed p q xs y)
    where
      by : (b : Bool) → cond b (Some x) (find q xs) ≡ Some y → (find q xs ≡ Some y → p y ≡ false → list_any p (removed q xs) ≡ list_any p xs) → list_any p (cond b xs (x ∷ removed q xs)) ≡ list_any p (x ∷ xs)
      by true h rest = let is : x ≡ y = cc in sym (ap (λ b. b || list_any p xs) (ap p is ∙ f))
      by false h rest = ap (λ b. p x || b) (rest h f)

  pub any_pushed : (p : A → Bool) (xs : List A) (y : A) → list_any p xs ≡ true → list_any p (xs ++ y ∷ []) ≡ true
  any_pushed p [] y t = cc
  any_pushed p (x ∷ xs) y t = grind (arith, nat_tests, any_pushed p xs y)

  pub any_last : (p : A → Bool) (xs : List A) (y : A) → p y ≡ true → list_any p (xs ++ y ∷ []) ≡ true
  any_last p [] y t = ap (λ b. b || false) t
  any_last p (x ∷ xs) y t = grind (arith, nat_tests, any_last p xs y)

  -- where one passes, the filter of a weaker test is not empty
  pub some_kept : (p q : A → Bool) (xs : List A) → ((x : A) → p x ≡ true → q x ≡ true) → list_any p xs ≡ true → nat_lt 0 (length (filter q xs)) ≡ true
  some_kept p q [] weaker t = cc
  some_kept p q (x ∷ xs) weaker t = by (p x) refl (q x) refl t (some_kept p q xs weaker)
    where
      by : (b : Bool) → p x ≡ b → (c : Bool) → q x ≡ c → (b || list_any p xs) ≡ true → (list_any p xs ≡ true → nat_lt 0 (length (filter q xs)) ≡ true) → nat_lt 0 (length (cond c (x ∷ filter q xs) (filter q xs))) ≡ true
      by b pb true qt h rest = grind (arith, nat_tests)
      by true pt false qf h rest = let t = weaker x pt in cc
      by false pf false qf h rest = rest h

  pub filter_contained : (p : A → Bool) (xs : List A) (x : A) → Contains (filter p xs) x → Contains xs x
  filter_contained p [] x at = at
  filter_contained p (y ∷ ys) x at = by (p y) at.0 at.1 at.2 (filter_contained p ys x)
    where
      later : Contains ys x → Contains (y ∷ ys) x
      later at = let below = at.1 in (suc at.0, omega arith, at.2)

      by : (b : Bool) (k : ℕ) → k < length (cond b (y ∷ filter p ys) (filter p ys)) → get_or (cond b (y ∷ filter p ys) (filter p ys)) k x ≡ x → (Contains (filter p ys) x → Contains ys x) → Contains (y ∷ ys) x
      by true zero below is rest = (0, omega arith, is)
      by true (suc k) below is rest = later (rest (k, omega arith, is))
      by false k below is rest = later (rest (k, below, is))

-- what is found stands somewhere, and passes
pub found_somewhere : {A : Type 0} (p : A → Bool) (xs : List A) (x : A) → find p xs ≡ Some x → (k : ℕ) × (k < length xs) × (get_or xs k x ≡ x) × (p x ≡ true)
found_somewhere p xs x is =
    let there : slice_get xs (position_or_len p xs) ≡ Some x = sym (find_at p xs) ∙ is in
    let within = slice_get_within xs (position_or_len p xs) x there in
    let same = get_or_from_slice_get xs (position_or_len p xs) x x there in
    (position_or_len p xs, within, same, ap p (sym same) ∙ passes_at_first p xs x within)
