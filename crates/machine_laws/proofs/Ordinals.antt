-- How often an ordinal stands among dead letters.
use Rattle.std.proofs.Common.{◌≡◌, ℕ, zero, suc, ◌+◌, ◌<◌, ◌≤◌, List, [], ◌∷◌, ◌++◌, map, Bool, true, false, cond, refl, ap, ◌∙◌, sym, arith, Contains, inl, inr, drop, subst}
use Rattle.std.specs.Prelude.{◌==◌, ◌^◌}
use Rattle.std.specs.List.{AllByRecursion, IsDistinct, flat_map, insert}
use Rattle.std.proofs.lemmas.Bool.Decides.{nat_tests}
use Rattle.std.proofs.lemmas.List.Elements.{All-from_recursion, recursion_from_All}
use Rattle.delivery_machine.specs.State.{DeadLetter}
use Rattle.delivery_machine.specs.WellFormed.{HaveOrdinals}
use Rattle.delivery_machine.specs.Words.{changed, removed}
use Rattle.delivery_machine.proofs.Among.{contained_cases}

abbrev pub times : ℕ → List DeadLetter → ℕ
times n [] = 0
times n (d ∷ ds) = cond {A = ℕ} (d.ordinal == n) 1 0 + times n ds

pub times_append : (n : ℕ) (ds es : List DeadLetter) → times n (ds ++ es) ≡ times n ds + times n es
times_append n [] es = omega arith
times_append n (d ∷ ds) es = let rest = times_append n ds es in omega (arith, rest)

pub times_dropped : (n : ℕ) (ds : List DeadLetter) → times n (drop 1 ds) ≤ times n ds
times_dropped n [] = omega arith
times_dropped n (d ∷ ds) = omega arith

-- ---- none twice

absent : (n : ℕ) (ds : List DeadLetter) → times n ds ≡ 0 → AllByRecursion (λ m. (n == m) ≡ false) (map (λ (d : DeadLetter). d.ordinal) ds)
absent n [] none = tt
absent n (d ∷ ds) none = (grind (arith, nat_tests), absent n ds (omega (arith, none)))

never : (n : ℕ) (ds : List DeadLetter) → AllByRecursion (λ m. (n == m) ≡ false) (map (λ (d : DeadLetter). d.ordinal) ds) → times n ds ≡ 0
never n [] all = refl
never n (d ∷ ds) all = let rest = never n ds all.1 in let other = all.0 in grind (arith, nat_tests)

pub distinct_once : (ds : List DeadLetter) → ((n : ℕ) → times n ds ≤ 1) → IsDistinct (λ a b. a == b) (map (λ (d : DeadLetter). d.ordinal) ds)
unfolding IsDistinct
distinct_once [] once = tt
distinct_once (d ∷ ds) once = (absent d.ordinal ds (none d.ordinal (times d.ordinal ds) (once d.ordinal)), distinct_once ds (λ n. less (cond {A = ℕ} (d.ordinal == n) 1 0) (times n ds) (once n)))
  where
    none : (a k : ℕ) → cond {A = ℕ} (a == a) 1 0 + k ≤ 1 → k ≡ 0
    none a k low = grind (arith, nat_tests)

    less : (a k : ℕ) → a + k ≤ 1 → k ≤ 1
    less a k low = omega arith

pub once_distinct : (ds : List DeadLetter) → IsDistinct (λ a b. a == b) (map (λ (d : DeadLetter). d.ordinal) ds) → (n : ℕ) → times n ds ≤ 1
unfolding IsDistinct
once_distinct [] distinct n = omega arith
once_distinct (d ∷ ds) distinct n = by (d.ordinal == n) refl (once_distinct ds distinct.1 n)
  where
    by : (b : Bool) → (d.ordinal == n) ≡ b → times n ds ≤ 1 → cond {A = ℕ} b 1 0 + times n ds ≤ 1
    by true same rest = let none = never d.ordinal ds distinct.0 in let is : d.ordinal ≡ n = grind (arith, nat_tests) in let zero = sym (ap (λ k. times k ds) is) ∙ none in omega arith
    by false other rest = omega arith

-- ---- those that are not given yet

pub each_below : (next : ℕ) (ds : List DeadLetter) → ((n : ℕ) → next ≤ n → times n ds ≡ 0) → AllByRecursion (λ (d : DeadLetter). d.ordinal < next) ds
each_below next [] free = tt
each_below next (d ∷ ds) free = (given next d.ordinal (times d.ordinal ds) (free d.ordinal), each_below next ds (λ n low. less (cond {A = ℕ} (d.ordinal == n) 1 0) (times n ds) (free n low)))
  where
    given : (next a k : ℕ) → (next ≤ a → cond {A = ℕ} (a == a) 1 0 + k ≡ 0) → a < next
    given next a k free = grind (arith, nat_tests)

    less : (a k : ℕ) → a + k ≡ 0 → k ≡ 0
    less a k none = omega arith

pub free_above : (next : ℕ) (ds : List DeadLetter) → AllByRecursion (λ (d : DeadLetter). d.ordinal < next) ds → (n : ℕ) → next ≤ n → times n ds ≡ 0
free_above next [] all n low = refl
free_above next (d ∷ ds) all n low = let rest = free_above next ds all.1 n low in let first = all.0 in grind (arith, nat_tests)

-- ---- in all lists of dead letters

-- where the lists are those of other things
pub letters_mapped : {A B : Type 0} (dead : A → List DeadLetter) (other : B → List DeadLetter) (f : B → A) → ((x : B) → dead (f x) ≡ other x) → (xs : List B) → flat_map dead (map f xs) ≡ flat_map other xs
letters_mapped dead other f same [] = refl
letters_mapped dead other f same (x ∷ xs) = ap (λ ds. ds ++ flat_map dead (map f xs)) (same x) ∙ ap (λ ds. other x ++ ds) (letters_mapped dead other f same xs)

module _ {A : Type 0} (dead : A → List DeadLetter) where
  abbrev pub times_among : ℕ → List A → ℕ
  times_among n [] = 0
  times_among n (x ∷ xs) = times n (dead x) + times_among n xs

  pub among_all : (n : ℕ) (xs : List A) → times n (flat_map dead xs) ≡ times_among n xs
  among_all n [] = refl
  among_all n (x ∷ xs) = times_append n (dead x) (flat_map dead xs) ∙ ap (λ k. times n (dead x) + k) (among_all n xs)

  pub among_part : (n : ℕ) (xs : List A) (x : A) → Contains xs x → times n (dead x) ≤ times_among n xs
  among_part n [] x at = let below = at.1 in absurd (omega arith)
  among_part n (y ∷ ys) x at = elim (contained_cases y ys x at) [
    | inl is ↦ let same = ap (λ (z : A). times n (dead z)) is in omega arith
    | inr later ↦ let rest = among_part n ys x later in omega arith
  ]

  -- where each has so many more
  pub among_changed : (n more : ℕ) (q : A → Bool) (f : A → A) → ((x : A) → times n (dead (f x)) ≤ times n (dead x) + more) → (xs : List A) → times_among n (changed q f xs) ≤ times_among n xs + more
  among_changed n more q f adds [] = omega arith
  among_changed n more q f adds (x ∷ xs) = by (q x) (among_changed n more q f adds xs)
    where
      by : (b : Bool) → times_among n (changed q f xs) ≤ times_among n xs + more → times_among n (cond b (f x ∷ xs) (x ∷ changed q f xs)) ≤ times_among n (x ∷ xs) + more
      by true rest = let first = adds x in omega arith
      by false rest = omega arith

  pub among_mapped : (n : ℕ) (f : A → A) → ((x : A) → dead (f x) ≡ dead x) → (xs : List A) → times_among n (map f xs) ≡ times_among n xs
  among_mapped n f same [] = refl
  among_mapped n f same (x ∷ xs) = ap (λ ds. times n ds + times_among n (map f xs)) (same x) ∙ ap (λ k. times n (dead x) + k) (among_mapped n f same xs)

  -- where one comes that has none
  pub among_inserted : (n : ℕ) (xs : List A) (i : ℕ) (y : A) → dead y ≡ [] → times_among n (insert xs i y) ≡ times_among n xs
  among_inserted n xs zero y none = let first = ap (times n) none in omega arith
  among_inserted n [] (suc i) y none = let first = ap (times n) none in omega arith
  among_inserted n (x ∷ xs) (suc i) y none = ap (λ k. times n (dead x) + k) (among_inserted n xs i y none)

  pub among_removed : (n : ℕ) (q : A → Bool) (xs : List A) → times_among n (removed q xs) ≤ times_among n xs
  among_removed n q [] = omega arith
  among_removed n q (x ∷ xs) = by (q x) (among_removed n q xs)
    where
      by : (b : Bool) → times_among n (removed q xs) ≤ times_among n xs → times_among n (cond b xs (x ∷ removed q xs)) ≤ times_among n (x ∷ xs)
      by true rest = omega arith
      by false rest = omega arith

  -- no ordinal stands twice, and those from the next on do not stand yet
  pub record AreOnce (next : ℕ) (xs : List A) : Type 0 where
    pub once : (n : ℕ) → times_among n xs ≤ 1
    pub free : (n : ℕ) → next ≤ n → times_among n xs ≡ 0
    pub last_ordinal : next ≤ 2 ^ 62

  pub once_fewer : (next : ℕ) (xs ys : List A) → ((n : ℕ) → times_among n ys ≤ times_among n xs) → AreOnce next xs → AreOnce next ys
  once_fewer next xs ys fewer all = record {
    once = λ n. let one = all.once n in let less = fewer n in omega arith;
    free = λ n low. let none = all.free n low in let less = fewer n in omega arith;
    last_ordinal = all.last_ordinal;
  }

  -- where the next ordinal is given
  pub once_more : (next : ℕ) (xs ys : List A) → next < 2 ^ 62 → ((n : ℕ) → times_among n ys ≤ times_among n xs + cond {A = ℕ} (next == n) 1 0) → AreOnce next xs → AreOnce (next + 1) ys
  once_more next xs ys room more all = record {
    once = λ n. one n (next == n) refl (more n);
    free = λ n low. none n (next == n) refl low (more n);
    last_ordinal = omega arith;
  }
    where
      one : (n : ℕ) (b : Bool) → (next == n) ≡ b → times_among n ys ≤ times_among n xs + cond {A = ℕ} b 1 0 → times_among n ys ≤ 1
      one n true is low = let before = all.free n (at_most next n is) in omega arith
        where
          at_most : (a b : ℕ) → (a == b) ≡ true → a ≤ b
          at_most a b e = grind (arith, nat_tests)
      one n false is low = let before = all.once n in omega arith

      none : (n : ℕ) (b : Bool) → (next == n) ≡ b → next + 1 ≤ n → times_among n ys ≤ times_among n xs + cond {A = ℕ} b 1 0 → times_among n ys ≡ 0
      none n true is above low = absurd (below next n is above)
        where
          below : (a b : ℕ) → (a == b) ≡ true → a + 1 ≤ b → ⊥
          below a b e low = grind (arith, nat_tests)
      none n false is above low = let before = all.free n (omega arith) in omega arith

  -- ---- as the words of well-formed states say it

  pub ordinals_once : (next : ℕ) (xs : List A) → AreOnce next xs → HaveOrdinals next (flat_map dead xs)
  ordinals_once next xs all = record {
    distinct = distinct_once (flat_map dead xs) (λ n. subst (λ (k : ℕ). k ≤ 1) (sym (among_all n xs)) (all.once n));
    below = All-from_recursion (λ (d : DeadLetter). d.ordinal < next) (flat_map dead xs) (each_below next (flat_map dead xs) (λ n low. among_all n xs ∙ all.free n low));
    last_ordinal = all.last_ordinal;
  }

  pub once_ordinals : (next : ℕ) (xs : List A) → HaveOrdinals next (flat_map dead xs) → AreOnce next xs
  once_ordinals next xs have = record {
    once = λ n. subst (λ (k : ℕ). k ≤ 1) (among_all n xs) (once_distinct (flat_map dead xs) have.distinct n);
    free = λ n low. sym (among_all n xs) ∙ free_above next (flat_map dead xs) (recursion_from_All (λ (d : DeadLetter). d.ordinal < next) (flat_map dead xs) have.below) n low;
    last_ordinal = have.last_ordinal;
  }

  -- the ordinals of one list are below the next
  pub below_next : (next : ℕ) (xs : List A) (x : A) → Contains xs x → AreOnce next xs → AllByRecursion (λ (d : DeadLetter). d.ordinal < next) (dead x)
  below_next next xs x at all = each_below next (dead x) (λ n low. let part = among_part n xs x at in let none = all.free n low in omega arith)
