-- Lists in which what is held comes first of what is live, and nothing else is held.
use Rattle.std.proofs.Common.{◌≡◌, ℕ, ◌≤◌, List, [], ◌∷◌, ◌++◌, take, length, suc, zero, Some, Bool, true, false, cond, refl, ap, ◌∙◌, sym, arith, true≢false, ap₂}
use Rattle.std.specs.Prelude.{⊤, not, ◌&&◌, ◌||◌, if◌then◌else◌}
use Rattle.std.specs.List.{find, filter, list_any}
use Rattle.delivery_machine.proofs.Deciding.{or_false}
use Rattle.delivery_machine.proofs.Firsts.{found_contained, any_contained}

-- of the first elements, so many, the live ones that are held come before those that are not; nothing else is held
abbrev pub is_ordered : {A : Type 0} → (A → Bool) → (A → Bool) → ℕ → List A → Bool
is_ordered live held zero xs = not (list_any held xs)
is_ordered live held (suc n) [] = true
is_ordered live held (suc n) (x ∷ xs) =
    if live x then (if held x then is_ordered live held n xs else not (list_any held xs)) else not (held x) && is_ordered live held n xs

not_any : (b : Bool) → not b ≡ true → b ≡ false
not_any false e = refl
not_any true e = cc

module _ {A : Type 0} where
  -- where nothing is held
  pub ordered_none : (live held : A → Bool) (n : ℕ) (xs : List A) → list_any held xs ≡ false → is_ordered live held n xs ≡ true
  ordered_none live held zero xs none = ap not none
  ordered_none live held (suc n) [] none = refl
  ordered_none live held (suc n) (x ∷ xs) none =
      let apart = or_false (held x) (list_any held xs) none in by (live x) (held x) (list_any held xs) apart.0 apart.1 (ordered_none live held n xs apart.1)
    where
      by : (l h a : Bool) → h ≡ false → a ≡ false → is_ordered live held n xs ≡ true → (if l then (if h then is_ordered live held n xs else not a) else not h && is_ordered live held n xs) ≡ true
      by true false false e f rest = refl
      by false false false e f rest = rest
      by l true a e f rest = cc
      by l false true e f rest = cc

  pub ordered_longer : (live held : A → Bool) (n m : ℕ) (xs : List A) → n ≤ m → is_ordered live held n xs ≡ true → is_ordered live held m xs ≡ true
  ordered_longer live held zero m xs le ordered = ordered_none live held m xs (not_any (list_any held xs) ordered)
  ordered_longer live held (suc n) zero xs le ordered = absurd (omega (arith, le))
  ordered_longer live held (suc n) (suc m) [] le ordered = refl
  ordered_longer live held (suc n) (suc m) (x ∷ xs) le ordered = by (live x) (held x) ordered (ordered_longer live held n m xs (omega (arith, le)))
    where
      by : (l h : Bool) → (if l then (if h then is_ordered live held n xs else not (list_any held xs)) else not h && is_ordered live held n xs) ≡ true → (is_ordered live held n xs ≡ true → is_ordered live held m xs ≡ true)
          → (if l then (if h then is_ordered live held m xs else not (list_any held xs)) else not h && is_ordered live held m xs) ≡ true
      by true true o rest = rest o
      by true false o rest = o
      by false false o rest = rest o
      by false true o rest = cc

  none_pushed : (p : A → Bool) (xs : List A) (y : A) → list_any p xs ≡ false → p y ≡ false → list_any p (xs ++ y ∷ []) ≡ false
  none_pushed p [] y none fails = ap (λ b. b || false) fails
  none_pushed p (x ∷ xs) y none fails = let apart = or_false (p x) (list_any p xs) none in ap₂ (λ a b. a || b) apart.0 (none_pushed p xs y apart.1 fails)

  -- where something is appended that is not held
  pub ordered_push : (live held : A → Bool) (n : ℕ) (xs : List A) (y : A) → n ≤ length xs → held y ≡ false → is_ordered live held n xs ≡ true → is_ordered live held n (xs ++ y ∷ []) ≡ true
  ordered_push live held zero xs y le fails ordered = ap not (none_pushed held xs y (not_any (list_any held xs) ordered) fails)
  ordered_push live held (suc n) [] y le fails ordered = absurd (omega (arith, le))
  ordered_push live held (suc n) (x ∷ xs) y le fails ordered = by (live x) (held x) ordered (ordered_push live held n xs y (omega (arith, le)) fails)
    where
      by : (l h : Bool) → (if l then (if h then is_ordered live held n xs else not (list_any held xs)) else not h && is_ordered live held n xs) ≡ true
          → (is_ordered live held n xs ≡ true → is_ordered live held n (xs ++ y ∷ []) ≡ true)
          → (if l then (if h then is_ordered live held n (xs ++ y ∷ []) else not (list_any held (xs ++ y ∷ []))) else not h && is_ordered live held n (xs ++ y ∷ [])) ≡ true
      by true true o rest = rest o
      by true false o rest = ap not (none_pushed held xs y (not_any (list_any held xs) o) fails)
      by false false o rest = rest o
      by false true o rest = cc

  none_part : (p q r : A → Bool) → ((x : A) → q x ≡ (p x && r x)) → (xs : List A) → list_any p xs ≡ false → list_any q xs ≡ false
  none_part p q r is [] none = refl
  none_part p q r is (x ∷ xs) none =
      let apart = or_false (p x) (list_any p xs) none in
      ap₂ (λ a b. a || b) (is x ∙ ap (λ b. b && r x) apart.0) (none_part p q r is xs apart.1)

  -- where some elements are neither live nor held any longer
  pub ordered_part : (live held live' held' r : A → Bool) → ((x : A) → live' x ≡ (live x && r x)) → ((x : A) → held' x ≡ (held x && r x)) → (n : ℕ) (xs : List A) → is_ordered live held n xs ≡ true → is_ordered live' held' n xs ≡ true
  ordered_part live held live' held' r lives holds zero xs ordered = ap not (none_part held held' r holds xs (not_any (list_any held xs) ordered))
  ordered_part live held live' held' r lives holds (suc n) [] ordered = refl
  ordered_part live held live' held' r lives holds (suc n) (x ∷ xs) ordered =
      ap₂ (λ l h. if l then (if h then is_ordered live' held' n xs else not (list_any held' xs)) else not h && is_ordered live' held' n xs) (lives x) (holds x)
      ∙ by (live x) (held x) (r x) ordered (ordered_part live held live' held' r lives holds n xs)
    where
      still_none : not (list_any held xs) ≡ true → list_any held' xs ≡ false
      still_none o = none_part held held' r holds xs (not_any (list_any held xs) o)

      by : (l h k : Bool) → (if l then (if h then is_ordered live held n xs else not (list_any held xs)) else not h && is_ordered live held n xs) ≡ true
          → (is_ordered live held n xs ≡ true → is_ordered live' held' n xs ≡ true)
          → (if l && k then (if h && k then is_ordered live' held' n xs else not (list_any held' xs)) else not (h && k) && is_ordered live' held' n xs) ≡ true
      by true true true o rest = rest o
      by true false true o rest = ap not (still_none o)
      by false true k o rest = cc
      by false false k o rest = rest o
      by true true false o rest = rest o
      by true false false o rest = ordered_none live' held' n xs (still_none o)

  none_kept : (p : A → Bool) (xs : List A) → list_any p xs ≡ false → filter p xs ≡ []
  none_kept p [] none = refl
  none_kept p (x ∷ xs) none = let apart = or_false (p x) (list_any p xs) none in ap (λ b. cond b (x ∷ filter p xs) (filter p xs)) apart.0 ∙ none_kept p xs apart.1

  -- what is held is the first of what is live
  pub held_are_first : (live held : A → Bool) (n : ℕ) (xs : List A) → is_ordered live held n xs ≡ true → filter held xs ≡ take (length (filter held xs)) (filter live (take n xs))
  held_are_first live held zero xs ordered =
      let none = none_kept held xs (not_any (list_any held xs) ordered) in none ∙ sym (ap (λ ys. take (length ys) []) none)
  held_are_first live held (suc n) [] ordered = refl
  held_are_first live held (suc n) (x ∷ xs) ordered = by (live x) (held x) ordered (held_are_first live held n xs)
    where
      by : (l h : Bool) → (if l then (if h then is_ordered live held n xs else not (list_any held xs)) else not h && is_ordered live held n xs) ≡ true
          → (is_ordered live held n xs ≡ true → filter held xs ≡ take (length (filter held xs)) (filter live (take n xs)))
          → cond h (x ∷ filter held xs) (filter held xs) ≡ take (length (cond h (x ∷ filter held xs) (filter held xs))) (cond l (x ∷ filter live (take n xs)) (filter live (take n xs)))
      by true true o rest = ap (λ ys. x ∷ ys) (rest o)
      by true false o rest =
          let none = none_kept held xs (not_any (list_any held xs) o) in none ∙ sym (ap (λ ys. take (length ys) (x ∷ filter live (take n xs))) none)
      by false false o rest = rest o
      by false true o rest = cc

  -- no two elements pass
  abbrev pub PassOnce : (A → Bool) → List A → Type 0
  PassOnce p [] = ⊤
  PassOnce p (x ∷ xs) = (p x ≡ true → list_any p xs ≡ false) × PassOnce p xs

  -- the next one of the live ones
  abbrev pub is_next : (A → Bool) → (A → Bool) → A → Bool
  is_next live held x = live x && not (held x)

  -- what comes after the one, where it passes alone
  none_with : (held p held' : A → Bool) → ((x : A) → held' x ≡ (held x || p x)) → (xs : List A) → list_any held xs ≡ false → list_any p xs ≡ false → list_any held' xs ≡ false
  none_with held p held' is [] none alone = refl
  none_with held p held' is (x ∷ xs) none alone =
      let a = or_false (held x) (list_any held xs) none in
      let b = or_false (p x) (list_any p xs) alone in
      ap₂ (λ c d. c || d) (is x ∙ ap₂ (λ c d. c || d) a.0 b.0) (none_with held p held' is xs a.1 b.1)

  taken_any : (p : A → Bool) (n : ℕ) (xs : List A) → list_any p (take n xs) ≡ true → list_any p xs ≡ true
  taken_any p zero xs t = cc
  taken_any p (suc n) [] t = t
  taken_any p (suc n) (x ∷ xs) t = by (p x) t (taken_any p n xs)
    where
      by : (b : Bool) → (b || list_any p (take n xs)) ≡ true → (list_any p (take n xs) ≡ true → list_any p xs ≡ true) → (b || list_any p xs) ≡ true
      by true t rest = refl
      by false t rest = rest t

  -- an element before the one that is found does not pass
  before_found : (p next : A → Bool) (n : ℕ) (x : A) (xs : List A) (e : A) → p e ≡ true → (p x ≡ true → list_any p xs ≡ false) → find next (take n xs) ≡ Some e → p x ≡ false
  before_found p next n x xs e here once found = by (p x) once
    where
      later : list_any p xs ≡ true
      later = taken_any p n xs (any_contained p (take n xs) e (found_contained next (take n xs) e found) here)

      by : (b : Bool) → (b ≡ true → list_any p xs ≡ false) → b ≡ false
      by false o = refl
      by true o = absurd (true≢false (sym later ∙ o refl))

  pub record IsOrderedWith (live held' held : A → Bool) (n : ℕ) (xs : List A) (e : A) : Type 0 where
    pub ordered : is_ordered live held' n xs ≡ true
    pub last : filter held' xs ≡ filter held xs ++ e ∷ []

  -- what is to be shown at one element: it is live, and held then
  abbrev AtOne : (A → Bool) → (A → Bool) → (A → Bool) → ℕ → A → List A → A → Bool → Bool → Type 0
  AtOne live held held' n x xs e l h =
      ((if l then (if h then is_ordered live held' n xs else not (list_any held' xs)) else not h && is_ordered live held' n xs) ≡ true)
      × (cond h (x ∷ filter held' xs) (filter held' xs) ≡ cond (held x) (x ∷ filter held xs) (filter held xs) ++ e ∷ [])

  -- where the next live one is held too
  pub ordered_next : (live held p held' : A → Bool) → ((x : A) → held' x ≡ (held x || p x)) → (n : ℕ) (xs : List A) (e : A) → p e ≡ true → PassOnce p xs → is_ordered live held n xs ≡ true → find (is_next live held) (take n xs) ≡ Some e → IsOrderedWith live held' held n xs e
  ordered_next live held p held' is zero xs e here once ordered found = cc
  ordered_next live held p held' is (suc n) [] e here once ordered found = cc
  ordered_next live held p held' is (suc n) (x ∷ xs) e here once ordered found =
      by (live x) refl (held x) refl ordered found (ordered_next live held p held' is n xs e here once.1)
    where
      settled : (l h : Bool) → live x ≡ l → held' x ≡ h → AtOne live held held' n x xs e l h → IsOrderedWith live held' held (suc n) (x ∷ xs) e
      settled l h e f g = record {
        ordered = ap₂ (λ l h. if l then (if h then is_ordered live held' n xs else not (list_any held' xs)) else not h && is_ordered live held' n xs) e f ∙ g.0;
        last = ap (λ h. cond h (x ∷ filter held' xs) (filter held' xs)) f ∙ g.1;
      }

      by : (l : Bool) → live x ≡ l → (h : Bool) → held x ≡ h → (if l then (if h then is_ordered live held n xs else not (list_any held xs)) else not h && is_ordered live held n xs) ≡ true
          → find (is_next live held) (take (suc n) (x ∷ xs)) ≡ Some e
          → (is_ordered live held n xs ≡ true → find (is_next live held) (take n xs) ≡ Some e → IsOrderedWith live held' held n xs e) → IsOrderedWith live held' held (suc n) (x ∷ xs) e
      by true lx true hx o f rest =
          let later = rest o (sym (ap (λ b. cond b (Some x) (find (is_next live held) (take n xs))) (ap₂ (λ l h. l && not h) lx hx)) ∙ f) in
          settled true true lx (is x ∙ ap (λ b. b || p x) hx)
          (later.ordered, ap (λ ys. x ∷ ys) later.last ∙ sym (ap (λ b. cond b (x ∷ filter held xs) (filter held xs) ++ e ∷ []) hx))
      by true lx false hx o f rest =
          let found : Some x ≡ Some e = sym (ap (λ b. cond b (Some x) (find (is_next live held) (take n xs))) (ap₂ (λ l h. l && not h) lx hx)) ∙ f in
          let same : x ≡ e = cc in
          let px : p x ≡ true = ap p same ∙ here in
          let none = not_any (list_any held xs) o in
          let rest_none = none_with held p held' is xs none (once.0 px) in
          settled true true lx (is x ∙ ap₂ (λ a b. a || b) hx px) (
            ordered_none live held' n xs rest_none,
            ap (λ ys. x ∷ ys) (none_kept held' xs rest_none) ∙ ap (λ z. z ∷ []) same
                ∙ sym (ap (λ b. cond b (x ∷ filter held xs) (filter held xs) ++ e ∷ []) hx ∙ ap (λ ys. ys ++ e ∷ []) (none_kept held xs none)),
          )
      by false lx true hx o f rest = cc
      by false lx false hx o f rest =
          let next : find (is_next live held) (take n xs) ≡ Some e = sym (ap (λ b. cond b (Some x) (find (is_next live held) (take n xs))) (ap₂ (λ l h. l && not h) lx hx)) ∙ f in
          let later = rest o next in
          settled false false lx (is x ∙ ap₂ (λ a b. a || b) hx (before_found p (is_next live held) n x xs e here once.0 next))
          (later.ordered, later.last ∙ sym (ap (λ b. cond b (x ∷ filter held xs) (filter held xs) ++ e ∷ []) hx))
