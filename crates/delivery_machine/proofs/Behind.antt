-- A subscription that stands behind another of its name has nothing pending: it may be found once the first is gone.
use Rattle.std.proofs.Common.{◌≡◌, ℕ, List, [], ◌∷◌, Some, None, suc, zero, Bool, true, false, cond, map, refl, ap, ◌∙◌, sym, subst, subst₂, ◌⊎◌, inl, inr, true≢false}
use Rattle.std.specs.Prelude.{⊤}
use Rattle.std.specs.List.{AllByRecursion, find, insert}
use Rattle.std.specs.Str.{bytes_eq}
use Rattle.std.specs.FinMap as map_of
use Rattle.std.proofs.lemmas.Slice.Eq.{bytes_eq-Decides}
use Rattle.position_core.specs.declared.position.Position.{Position}
use Rattle.position_core.specs.declared.held.Held.{Held}
use Rattle.delivery_machine.specs.State.{Subscription}
use Rattle.delivery_machine.specs.Words.{changed, removed, is_named}
use Rattle.delivery_machine.proofs.Firsts.{found_passes, first_of_passing, first_of_failing}

abbrev pub IsIdle : Subscription → Type 0
IsIdle sub = (p : Position) (h : Held) → map_of.get sub.pending p ≡ Some h → ⊥

abbrev pub IsBehindIdle : Subscription → Subscription → Type 0
IsBehindIdle x y = is_named x.name y ≡ true → IsIdle y

-- those that stand behind another of their name are idle
abbrev pub AllBehindIdle : List Subscription → Type 0
AllBehindIdle [] = ⊤
AllBehindIdle (x ∷ xs) = AllByRecursion (IsBehindIdle x) xs × AllBehindIdle xs

pub same_name : (a b : List ℕ) → bytes_eq a b ≡ true → a ≡ b
same_name a b e = (bytes_eq-Decides a b).0 e

pub is_same_name : (a b : List ℕ) → a ≡ b → bytes_eq a b ≡ true
is_same_name a b e = (bytes_eq-Decides a b).1 e

pub names_differ : (a b : List ℕ) → bytes_eq a b ≡ false → bytes_eq b a ≡ false
names_differ a b differ = by (bytes_eq b a) refl
  where
    by : (c : Bool) → bytes_eq b a ≡ c → c ≡ false
    by false f = refl
    by true t = sym (is_same_name a b (sym (same_name b a t))) ∙ differ

-- what has the one name has not the other
pub other_name : (name n : List ℕ) (sub : Subscription) → bytes_eq name n ≡ false → is_named n sub ≡ true → is_named name sub ≡ false
other_name name n sub differ is = by (is_named name sub) refl
  where
    by : (b : Bool) → is_named name sub ≡ b → b ≡ false
    by false f = refl
    by true t = sym (is_same_name name n (sym (same_name sub.name name t) ∙ same_name sub.name n is)) ∙ differ

-- ---- lists of which each element has a property

module _ {A : Type 0} (P : A → Type 0) where
  each_changed : (q : A → Bool) (f : A → A) (xs : List A) → ((x : A) → q x ≡ true → P (f x)) → AllByRecursion P xs → AllByRecursion P (changed q f xs)
  each_changed q f [] keeps all = tt
  each_changed q f (x ∷ xs) keeps all = by (q x) refl (each_changed q f xs keeps all.1)
    where
      by : (b : Bool) → q x ≡ b → AllByRecursion P (changed q f xs) → AllByRecursion P (cond b (f x ∷ xs) (x ∷ changed q f xs))
      by true t rest = (keeps x t, all.1)
      by false t rest = (all.0, rest)

  each_removed : (q : A → Bool) (xs : List A) → AllByRecursion P xs → AllByRecursion P (removed q xs)
  each_removed q [] all = tt
  each_removed q (x ∷ xs) all = by (q x) (each_removed q xs all.1)
    where
      by : (b : Bool) → AllByRecursion P (removed q xs) → AllByRecursion P (cond b xs (x ∷ removed q xs))
      by true rest = all.1
      by false rest = (all.0, rest)

  each_inserted : (xs : List A) (i : ℕ) (y : A) → P y → AllByRecursion P xs → AllByRecursion P (insert xs i y)
  each_inserted xs zero y one all = (one, all)
  each_inserted [] (suc i) y one all = (one, tt)
  each_inserted (x ∷ xs) (suc i) y one all = (all.0, each_inserted xs i y one all.1)

  each_found : (q : A → Bool) (xs : List A) (y : A) → find q xs ≡ Some y → AllByRecursion P xs → P y
  each_found q [] y h all = cc
  each_found q (x ∷ xs) y h all = by (q x) h (λ h. each_found q xs y h all.1)
    where
      by : (b : Bool) → cond b (Some x) (find q xs) ≡ Some y → (find q xs ≡ Some y → P y) → P y
      by true h rest = let same : x ≡ y = cc in subst P same all.0
      by false h rest = rest h

  -- none passes
  pub each_unfound : (q : A → Bool) (xs : List A) → find q xs ≡ None → ((x : A) → q x ≡ false → P x) → AllByRecursion P xs
  each_unfound q [] h fails = tt
  each_unfound q (x ∷ xs) h fails = by (q x) refl h (λ h. each_unfound q xs h fails)
    where
      by : (b : Bool) → q x ≡ b → cond b (Some x) (find q xs) ≡ None → (find q xs ≡ None → AllByRecursion P xs) → AllByRecursion P (x ∷ xs)
      by true t h rest = cc
      by false t h rest = (fails x t, rest h)

unfound_later : {A : Type 0} (q : A → Bool) (x : A) (xs : List A) → find q (x ∷ xs) ≡ None → find q xs ≡ None
unfound_later q x xs h = by (q x) h
  where
    by : (b : Bool) → cond b (Some x) (find q xs) ≡ None → find q xs ≡ None
    by true h = cc
    by false h = h

-- ---- what is kept

pub behind_changed : (n : List ℕ) (f : Subscription → Subscription) (subs : List Subscription) → ((sub : Subscription) → (f sub).name ≡ sub.name) → AllBehindIdle subs → AllBehindIdle (changed (is_named n) f subs)
behind_changed n f [] same behind = tt
behind_changed n f (x ∷ xs) same behind = by (is_named n x) refl (behind_changed n f xs same behind.1)
  where
    by : (b : Bool) → is_named n x ≡ b → AllBehindIdle (changed (is_named n) f xs) → AllBehindIdle (cond b (f x ∷ xs) (x ∷ changed (is_named n) f xs))
    by true t rest = (subst (λ (m : List ℕ). AllByRecursion (λ y. is_named m y ≡ true → IsIdle y) xs) (sym (same x)) behind.0, behind.1)
    by false t rest = (
      each_changed (IsBehindIdle x) (is_named n) f xs
          (λ y named alike.
          let is : x.name ≡ n = sym (same_name (f y).name x.name alike) ∙ same y ∙ same_name y.name n named in
          absurd (true≢false (sym (is_same_name x.name n is) ∙ t)))
          behind.0,
      rest,
    )

pub behind_mapped : (f : Subscription → Subscription) (subs : List Subscription) → ((sub : Subscription) → (f sub).name ≡ sub.name) → ((sub : Subscription) → (f sub).pending ≡ sub.pending) → AllBehindIdle subs → AllBehindIdle (map f subs)
behind_mapped f [] names same behind = tt
behind_mapped f (x ∷ xs) names same behind = (each xs behind.0, behind_mapped f xs names same behind.1)
  where
    each : (ys : List Subscription) → AllByRecursion (IsBehindIdle x) ys → AllByRecursion (IsBehindIdle (f x)) (map f ys)
    each [] all = tt
    each (y ∷ ys) all = (
      λ alike p h is. all.0 (subst₂ (λ (m n : List ℕ). bytes_eq n m ≡ true) (names x) (names y) alike) p h (sym (ap (λ pending. map_of.get pending p) (same y)) ∙ is),
      each ys all.1,
    )

pub behind_placed : (subs : List Subscription) (i : ℕ) (new : Subscription) → IsIdle new → find (is_named new.name) subs ≡ None → AllBehindIdle subs → AllBehindIdle (insert subs i new)
behind_placed subs zero new idle none behind = (each_unfound (IsBehindIdle new) (is_named new.name) subs none (λ y f t. absurd (true≢false (sym t ∙ f))), behind)
behind_placed [] (suc i) new idle none behind = (tt, tt)
behind_placed (x ∷ xs) (suc i) new idle none behind =
    (each_inserted (IsBehindIdle x) xs i new (λ _. idle) behind.0, behind_placed xs i new idle (unfound_later (is_named new.name) x xs none) behind.1)

pub behind_removed : (q : Subscription → Bool) (subs : List Subscription) → AllBehindIdle subs → AllBehindIdle (removed q subs)
behind_removed q [] behind = tt
behind_removed q (x ∷ xs) behind = by (q x) (behind_removed q xs behind.1)
  where
    by : (b : Bool) → AllBehindIdle (removed q xs) → AllBehindIdle (cond b xs (x ∷ removed q xs))
    by true rest = behind.1
    by false rest = (each_removed (IsBehindIdle x) q xs behind.0, rest)

-- what is found once a subscription is taken out was found before, or is idle
pub found_removed : (name n : List ℕ) (subs : List Subscription) (y : Subscription) → AllBehindIdle subs → find (is_named name) (removed (is_named n) subs) ≡ Some y → (find (is_named name) subs ≡ Some y) ⊎ IsIdle y
found_removed name n [] y behind h = cc
found_removed name n (x ∷ xs) y behind h = by (is_named n x) (is_named name x) refl h (found_removed name n xs y behind.1)
  where
    by : (b c : Bool) → is_named name x ≡ c → find (is_named name) (cond b xs (x ∷ removed (is_named n) xs)) ≡ Some y → (find (is_named name) (removed (is_named n) xs) ≡ Some y → (find (is_named name) xs ≡ Some y) ⊎ IsIdle y)
        → (find (is_named name) (x ∷ xs) ≡ Some y) ⊎ IsIdle y
    by true true t h rest =
        let named : is_named name y ≡ true = found_passes (is_named name) xs y h in
        let alike : y.name ≡ x.name = same_name y.name name named ∙ sym (same_name x.name name t) in
        inr (each_found (IsBehindIdle x) (is_named name) xs y h behind.0 (is_same_name y.name x.name alike))
    by true false f h rest = inl (first_of_failing (is_named name x) x (find (is_named name) xs) f ∙ h)
    by false true t h rest =
        inl (first_of_passing (is_named name x) x (find (is_named name) xs) t ∙ sym (first_of_passing (is_named name x) x (find (is_named name) (removed (is_named n) xs)) t) ∙ h)
    by false false f h rest =
        elim (rest (sym (first_of_failing (is_named name x) x (find (is_named name) (removed (is_named n) xs)) f) ∙ h)) [
          | inl a ↦ inl (first_of_failing (is_named name x) x (find (is_named name) xs) f ∙ a)
          | inr b ↦ inr b
        ]
