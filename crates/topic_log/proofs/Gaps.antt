-- The numbers whose names the log has, but for the gaps.
use Rattle.std.proofs.Common.{◌≡◌, ℕ, ◌+◌, ◌<◌, ◌≤◌, List, [], ◌∷◌, ◌++◌, Bool, true, false, cond, Some, None, Option, map, refl, ap, sym, ◌∙◌, subst, inl, inr, arith, All, true≢false, below_more}
use Rattle.std.specs.Prelude.{◌||◌, ◌==◌, not}
use Rattle.std.specs.List.{AllByRecursion, filter, find, list_any}
use Rattle.std.specs.List.Sorted.{IsStrictlySortedBy}
use Rattle.std.specs.Ordering.{nat_cmp}
use Rattle.std.specs.declared.cmp.Ordering.TheVariants.{Less}
use Rattle.std.proofs.lemmas.Bool.{cases_lt, false≢true}
use Rattle.std.proofs.lemmas.Grind.{common_steps}
use Rattle.std.proofs.lemmas.List.Elements.{All-nil, All-filter, All-push, All-weaker, All-contains, recursion_from_All}
use Rattle.std.proofs.lemmas.List.Folds.{list_any-append}
use Rattle.std.proofs.lemmas.List.Kept.{IsStrictlySortedBy-filter}
use Rattle.std.proofs.lemmas.Map.Views.{any-filter_same}
use Rattle.delivery_machine.proofs.Deciding.{itself, number_is, apart_above}
use Rattle.delivery_machine.proofs.Firsts.{found_contained}
use Rattle.delivery_machine.proofs.Rising.{sorted_push}
use Rattle.topic_log.specs.Names.{AreGaps}

less_is : (a b : ℕ) → a < b → nat_cmp a b ≡ Less
less_is a b low = grind (arith, common_steps)

is_less : (a b : ℕ) → nat_cmp a b ≡ Less → a < b
is_less a b e = grind (arith, common_steps)

pub no_gaps : (p : ℕ → Bool) → AreGaps p 0 []
unfolding IsStrictlySortedBy
no_gaps p = record { others = λ k low out. absurd (omega arith); rising = tt; below = All-nil (λ g. g < 0) }

-- where more is written
pub gaps_still : (p q : ℕ → Bool) (first : ℕ) (gaps : List ℕ) → ((k : ℕ) → p k ≡ true → q k ≡ true) → AreGaps p first gaps → AreGaps q first gaps
gaps_still p q first gaps more at = record { others = λ k low out. more k (at.others k low out); rising = at.rising; below = at.below }

pub gaps_left : (p : ℕ → Bool) (first : ℕ) (gaps : List ℕ) → AreGaps p first gaps → AreGaps p first (filter (λ g. not (p g)) gaps)
gaps_left p first gaps at = record {
  others = λ k low out. by (p k) k low out refl;
  rising = IsStrictlySortedBy-filter nat_cmp (λ g. not (p g)) gaps at.rising;
  below = All-filter (λ g. not (p g)) (λ g. g < first) gaps at.below;
}
  where
    by : (b : Bool) (k : ℕ) → k < first → list_any (λ g. g == k) (filter (λ g. not (p g)) gaps) ≡ false → p k ≡ b → p k ≡ true
    by true k low out is = is
    by false k low out is =
        let kept = any-filter_same (λ g. g == k) (λ g. not (p g)) true (λ g same. ap (λ x. not (p x)) (number_is g k same) ∙ ap not is) gaps in
        at.others k low (sym kept ∙ out)

-- ---- one number after another

written_on : (p : ℕ → Bool) (n : ℕ) (gaps : List ℕ) → AreGaps p n gaps → p n ≡ true → AreGaps p (n + 1) gaps
written_on p n gaps at here = record {
  others = λ k low out. elim (cases_lt k n) [
    | inl below ↦ at.others k below out
    | inr not_below ↦ let same : n ≡ k = omega arith in subst (λ (m : ℕ). p m ≡ true) same here
  ];
  rising = at.rising;
  below = All-weaker (λ g. g < n) (λ g. g < n + 1) (λ g low. omega (arith, low)) gaps at.below;
}

map_same : (xs : List ℕ) → map (λ x. x) xs ≡ xs
map_same [] = refl
map_same (x ∷ xs) = ap (λ ys. x ∷ ys) (map_same xs)

or_last : (a b : Bool) → (a || (b || false)) ≡ false → (a ≡ false) × (b ≡ false)
or_last true b e = absurd (true≢false e)
or_last false true e = absurd (true≢false e)
or_last false false e = (refl, refl)

gap_on : (p : ℕ → Bool) (n : ℕ) (gaps : List ℕ) → AreGaps p n gaps → AreGaps p (n + 1) (gaps ++ n ∷ [])
gap_on p n gaps at = record {
  others = λ k low out.
      let apart = or_last (list_any (λ g. g == k) gaps) (n == k) (sym (list_any-append (λ g. g == k) gaps (n ∷ [])) ∙ out) in
      elim (cases_lt k n) [
        | inl below ↦ at.others k below apart.0
        | inr not_below ↦ let same : n ≡ k = omega arith in absurd (true≢false (sym (itself n) ∙ ap (λ (m : ℕ). n == m) same ∙ apart.1))
      ];
  rising = subst (λ (xs : List ℕ). IsStrictlySortedBy nat_cmp xs) (map_same (gaps ++ n ∷ []))
      (sorted_push nat_cmp (λ x. x) gaps n (subst (λ (xs : List ℕ). IsStrictlySortedBy nat_cmp xs) (sym (map_same gaps)) at.rising)
      (recursion_from_All (λ g. nat_cmp g n ≡ Less) gaps (All-weaker (λ g. g < n) (λ g. nat_cmp g n ≡ Less) (λ g low. less_is g n low) gaps at.below)));
  below = All-push (λ g. g < n + 1) gaps n (All-weaker (λ g. g < n) (λ g. g < n + 1) (λ g low. omega (arith, low)) gaps at.below) (omega arith);
}

-- the same, where the search began with other gaps
pub search_written : (p : ℕ → Bool) (first n : ℕ) (before gaps new : List ℕ) → (AreGaps p first before → AreGaps p n gaps) → p n ≡ true → new ≡ gaps → AreGaps p first before → AreGaps p (n + 1) new
search_written p first n before gaps new so_far here is at = subst (AreGaps p (n + 1)) (sym is) (written_on p n gaps (so_far at) here)

pub search_gap : (p : ℕ → Bool) (first n : ℕ) (before gaps new : List ℕ) → (AreGaps p first before → AreGaps p n gaps) → new ≡ gaps ++ n ∷ [] → AreGaps p first before → AreGaps p (n + 1) new
search_gap p first n before gaps new so_far is at = subst (AreGaps p (n + 1)) (sym is) (gap_on p n gaps (so_far at))

pub taken_on : (t : ℕ → Bool) (first n : ℕ) → ((k : ℕ) → first ≤ k → k < n → t k ≡ true) → t n ≡ true → (k : ℕ) → first ≤ k → k < n + 1 → t k ≡ true
taken_on t first n so_far here k from below = below_more (λ m. first ≤ m → t m ≡ true) n (λ m low least. so_far m least low) (λ least. here) k below from

-- ---- the first that is free

turned : (b : Bool) → not b ≡ false → b ≡ true
turned true e = refl
turned false e = absurd (true≢false e)

turned_back : (b : Bool) → not b ≡ true → b ≡ false
turned_back true e = absurd (false≢true e)
turned_back false e = refl

not_found : (x : ℕ) → ◌≡◌ {A = Option ℕ} (Some x) None → ⊥
not_found x e = cc

-- a number below the first that is free is no gap, or is taken
before_free : (t : ℕ → Bool) (gaps : List ℕ) (n : ℕ) → IsStrictlySortedBy nat_cmp gaps → find (λ g. not (t g)) gaps ≡ Some n → (t n ≡ false) × ((k : ℕ) → k < n → list_any (λ g. g == k) gaps ≡ true → t k ≡ true)
unfolding IsStrictlySortedBy
before_free t [] n rising is = cc
before_free t (x ∷ gaps) n rising is = by (t x) refl (λ rest. before_free t gaps n rising.1 rest)
  where
    none_above : (k : ℕ) (xs : List ℕ) → k < x → AllByRecursion (λ q. nat_cmp x q ≡ Less) xs → list_any (λ g. g == k) xs ≡ false
    none_above k [] low above = refl
    none_above k (y ∷ ys) low above =
        let high = is_less x y above.0 in
        ap (λ b. b || list_any (λ g. g == k) ys) (apart_above y k (omega (arith, high))) ∙ none_above k ys low above.1

    by : (b : Bool) → t x ≡ b → (find (λ g. not (t g)) gaps ≡ Some n → (t n ≡ false) × ((k : ℕ) → k < n → list_any (λ g. g == k) gaps ≡ true → t k ≡ true)) → (t n ≡ false) × ((k : ℕ) → k < n → list_any (λ g. g == k) (x ∷ gaps) ≡ true → t k ≡ true)
    by false e rest =
        let here : x ≡ n = some_is x n (sym (ap (λ b. cond (not b) (Some x) (find (λ g. not (t g)) gaps)) e) ∙ is) in (
          ap t (sym here) ∙ e,
          λ k low in_it.
              let lower : k < x = omega (arith, here) in
              absurd (false≢true (sym (ap (λ b. b || list_any (λ g. g == k) gaps) (apart_above x k lower) ∙ none_above k gaps lower rising.0) ∙ in_it)),
        )
      where
        some_is : (a b : ℕ) → ◌≡◌ {A = Option ℕ} (Some a) (Some b) → a ≡ b
        some_is a b e = cc
    by true e rest =
        let after = rest (sym (ap (λ b. cond (not b) (Some x) (find (λ g. not (t g)) gaps)) e) ∙ is) in
        (after.0, λ k low in_it. either (x == k) k low refl in_it (after.1 k low))
      where
        either : (b : Bool) (k : ℕ) → k < n → (x == k) ≡ b → (b || list_any (λ g. g == k) gaps) ≡ true → (list_any (λ g. g == k) gaps ≡ true → t k ≡ true) → t k ≡ true
        either true k low same in_it later = ap t (sym (number_is x k same)) ∙ e
        either false k low other in_it later = later in_it

module _ (p t : ℕ → Bool) (writers : (k : ℕ) → p k ≡ true → t k ≡ true) where
  gap_or_written : (first : ℕ) (gaps : List ℕ) → AreGaps p first gaps → (k : ℕ) → k < first → (list_any (λ g. g == k) gaps ≡ true → t k ≡ true) → t k ≡ true
  gap_or_written first gaps at k low taken = by (list_any (λ g. g == k) gaps) refl
    where
      by : (b : Bool) → list_any (λ g. g == k) gaps ≡ b → t k ≡ true
      by true e = taken e
      by false e = writers k (at.others k low e)

  pub least_gap : (first : ℕ) (gaps : List ℕ) (n : ℕ) → AreGaps p first gaps → Some n ≡ find (λ g. not (t g)) gaps → (t n ≡ false) × ((k : ℕ) → k < n → t k ≡ true)
  least_gap first gaps n at is =
      let free = before_free t gaps n at.rising (sym is) in
      let low = found_below gaps at.below (sym is) in
      (free.0, λ k below. gap_or_written first gaps at k (omega (arith, low)) (free.1 k below))
    where
      found_below : (xs : List ℕ) → All (λ g. g < first) xs → find (λ g. not (t g)) xs ≡ Some n → n < first
      found_below xs all found = All-contains (λ g. g < first) xs n all (found_contained (λ g. not (t g)) xs n found)

  pub none_free : (first : ℕ) (gaps : List ℕ) → AreGaps p first gaps → None ≡ find (λ g. not (t g)) gaps → (k : ℕ) → k < first → t k ≡ true
  none_free first gaps at is k low = gap_or_written first gaps at k low (all_taken gaps (sym is))
    where
      all_taken : (xs : List ℕ) → find (λ g. not (t g)) xs ≡ None → list_any (λ g. g == k) xs ≡ true → t k ≡ true
      all_taken [] none in_it = absurd (false≢true in_it)
      all_taken (x ∷ xs) none in_it = by (t x) (x == k) refl refl in_it (all_taken xs)
        where
          by : (b c : Bool) → t x ≡ b → (x == k) ≡ c → (c || list_any (λ g. g == k) xs) ≡ true → (find (λ g. not (t g)) xs ≡ None → list_any (λ g. g == k) xs ≡ true → t k ≡ true) → t k ≡ true
          by true true e same inside rest = ap t (sym (number_is x k same)) ∙ e
          by true false e other inside rest = rest (sym (ap (λ b. cond (not b) (Some x) (find (λ g. not (t g)) xs)) e) ∙ none) inside
          by false c e same inside rest = absurd (not_found x (sym (ap (λ b. cond (not b) (Some x) (find (λ g. not (t g)) xs)) e) ∙ none))
