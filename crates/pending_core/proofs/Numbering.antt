-- The pairs of consumers and numbers: what is found, and what a change of one does.
use Rattle.std.proofs.Common.{◌≡◌, ◌≢◌, ℕ, zero, suc, ◌+◌, ◌-◌, ◌<◌, ◌≤◌, eqb, List, [], ◌∷◌, length, get_or, set, if◌then◌else◌, Result, Ok, Err, IfOk, IfErr, refl, sym, ap, ◌∙◌, subst, arith}
use Rattle.std.specs.List.{insert, remove}
use Rattle.std.specs.List.Sorted.{IsSearchInRange, IsBinarySearchResult, IsNonDecreasingBy}
use Rattle.std.specs.Ordering.{nat_cmp, ordering_index}
use Rattle.std.proofs.lemmas.Cmp.{ranked}
use Rattle.std.proofs.lemmas.List.Sorted.{IsNonDecreasingBy-from_default}
use Rattle.std.proofs.lemmas.List.Edits.{length-insert, get_or-insert_below, get_or-insert_at, get_or-insert_above, length-remove, get_or-remove_below, get_or-remove_above}
use Rattle.std.proofs.lemmas.Bool.Decides.{nat_tests}
use Rattle.std.proofs.lemmas.Grind.{common_steps}
use Rattle.pending_core.specs.Counts.{number_at, NumberChanges, consumer_at, ConsumersRise, IsPlaceOf, IsGapFor}

-- the consumer stands at none of the places below this one
abbrev pub NoneBelow : List (ℕ × ℕ) → ℕ → ℕ → Type 0
NoneBelow l k n = (i : ℕ) → i < n → consumer_at l i ≢ k

none_in_rest : (x : ℕ × ℕ) (l : List (ℕ × ℕ)) (k n : ℕ) → NoneBelow (x ∷ l) k (suc n) → NoneBelow l k n
none_in_rest x l k n none i below = none (suc i) (omega arith)

place_in_rest : (x : ℕ × ℕ) (l : List (ℕ × ℕ)) (k i : ℕ) → IsPlaceOf (x ∷ l) k (suc i) → IsPlaceOf l k i
place_in_rest x l k i at = record { within = omega (arith, at.within); same = at.same }

number_of_none : (l : List (ℕ × ℕ)) (k : ℕ) → NoneBelow l k (length l) → number_at l k ≡ 0
number_of_none [] k none = refl
number_of_none (x ∷ l) k none = grind (arith, nat_tests, none 0 (omega arith), number_of_none l k (none_in_rest x l k _ none))

number_of_first : (l : List (ℕ × ℕ)) (k i : ℕ) → IsPlaceOf l k i → NoneBelow l k i → number_at l k ≡ (get_or l i (0, 0)).1
number_of_first [] k i at none = absurd (omega (arith, at.within))
number_of_first (x ∷ l) k zero at none = grind (arith, nat_tests, at.same)
number_of_first (x ∷ l) k (suc i) at none = grind (arith, nat_tests, none 0 (omega arith), number_of_first l k i (place_in_rest x l k i at) (none_in_rest x l k i none))

set_changes : (l : List (ℕ × ℕ)) (k n i : ℕ) → IsPlaceOf l k i → NoneBelow l k i → NumberChanges k n l (set l i (k, n))
set_changes [] k n i at none other = absurd (omega (arith, at.within))
set_changes (x ∷ l) k n zero at none other = grind (arith, nat_tests, at.same)
set_changes (x ∷ l) k n (suc i) at none other = grind (arith, nat_tests, none 0 (omega arith), set_changes l k n i (place_in_rest x l k i at) (none_in_rest x l k i none) other)

insert_changes : (l : List (ℕ × ℕ)) (k n i : ℕ) → NoneBelow l k i → NumberChanges k n l (insert l i (k, n))
insert_changes l k n zero none other = refl
insert_changes [] k n (suc i) none other = refl
insert_changes (x ∷ l) k n (suc i) none other = grind (arith, nat_tests, none 0 (omega arith), insert_changes l k n i (none_in_rest x l k i none) other)

-- it is not in what is left
remove_changes : (l : List (ℕ × ℕ)) (k i : ℕ) → IsPlaceOf l k i → ((j : ℕ) → j < length l → j ≢ i → consumer_at l j ≢ k) → NumberChanges k 0 l (remove l i)
remove_changes [] k i at once other = absurd (omega (arith, at.within))
remove_changes (x ∷ l) k zero at once other =
    let gone = number_of_none l k (λ j below. once (suc j) (omega arith) (λ same. omega (arith, same))) in
    let it : x.0 ≡ k = at.same in
    by (eqb k other) refl gone it
  where
    by : (b : _) → eqb k other ≡ b → number_at l k ≡ 0 → x.0 ≡ k → number_at l other ≡ (if eqb k other then 0 else number_at (x ∷ l) other)
    by b e gone it = grind (arith, nat_tests, λ (same : k ≡ other). ap (number_at l) same)
remove_changes (x ∷ l) k (suc i) at once other =
    grind (arith, nat_tests, once 0 (omega arith) (λ same. omega (arith, same)), remove_changes l k i (place_in_rest x l k i at) (λ j below apart. once (suc j) (omega arith) (λ same. apart (omega (arith, same)))) other)

module _ (l : List (ℕ × ℕ)) (rise : ConsumersRise l) (k : ℕ) where
  comparisons_rise : IsNonDecreasingBy (λ pair. ordering_index (nat_cmp pair.0 k)) l
  comparisons_rise = IsNonDecreasingBy-from_default (λ pair. ordering_index (nat_cmp pair.0 k)) l (0, 0) (λ i j le below.
      let rises : consumer_at l i ≤ consumer_at l j = grind (arith, rise i j, λ (same : i ≡ j). ap (consumer_at l) same) in
      grind (arith, nat_tests))

  -- halving ends at the consumer, or at the gap for it
  pub searched : (r : Result ℕ ℕ) → IsSearchInRange r (length l) → IsBinarySearchResult (λ pair. nat_cmp pair.0 k) l r → record { found : IfOk r (IsPlaceOf l k); absent : IfErr r (IsGapFor l k) }
  searched (Ok at) within equal = record { found = record { within = within; same = ranked _ k _ (sym (equal (0, 0))) }; absent = tt }
  searched (Err at) within parted = record {
    found = tt;
    absent = record {
      within = within;
      before = λ i below. ranked _ k _ (sym ((parted comparisons_rise).0 i (0, 0) (omega arith) below));
      after = λ i from below. ranked _ k _ (sym ((parted comparisons_rise).1 i (0, 0) from below));
    };
  }

module _ (l : List (ℕ × ℕ)) (rise : ConsumersRise l) (k at : ℕ) (is : IsPlaceOf l k at) where
  none_below : NoneBelow l k at
  none_below i below same = omega (arith, rise i at below is.within, is.same)

  once : (i : ℕ) → i < length l → i ≢ at → consumer_at l i ≢ k
  once i below apart same = grind (arith, rise i at, rise at i, is.within, is.same)

  pub number_there : number_at l k ≡ (get_or l at (0, 0)).1
  number_there = number_of_first l k at is none_below

  pub number_of_pair : (pair : ℕ × ℕ) → pair ≡ get_or l at (0, 0) → pair.1 ≡ number_at l k
  number_of_pair pair here = ap (λ (x : ℕ × ℕ). x.1) here ∙ sym number_there

  pub changed_by_set : (n : ℕ) → NumberChanges k n l (set l at (k, n))
  changed_by_set n = set_changes l k n at is none_below

  pub rise_after_set : (n : ℕ) → ConsumersRise (set l at (k, n))
  rise_after_set n i j lower below = grind (arith, common_steps, rise i j, rise i at, rise at j, is.within, is.same)

  pub changed_by_remove : NumberChanges k 0 l (remove l at)
  changed_by_remove = remove_changes l k at is once

  pub rise_after_remove : ConsumersRise (remove l at)
  rise_after_remove i j lower below =
      let new = remove l at in
      let key = λ (x : ℕ × ℕ). x.0 in
      let fewer = length-remove l at is.within in
      let key_below : (i : ℕ) → i < at → consumer_at new i ≡ consumer_at l i = λ i less. ap key (get_or-remove_below l at (0, 0) i less is.within) in
      let key_above : (i : ℕ) → at ≤ i → consumer_at new i ≡ consumer_at l (i + 1) = λ i from. ap key (get_or-remove_above l at (0, 0) i from is.within) in
      grind (arith, key_below i, key_above i, key_below j, key_above j, rise i j, rise i (j + 1), rise (i + 1) (j + 1))

module _ (l : List (ℕ × ℕ)) (k at : ℕ) (gap : IsGapFor l k at) where
  pub number_in_gap : number_at l k ≡ 0
  number_in_gap = number_of_none l k (λ i below same. grind (arith, gap.before i, gap.after i))

  pub changed_by_insert : (n : ℕ) → NumberChanges k n l (insert l at (k, n))
  changed_by_insert n = insert_changes l k n at (λ i below same. omega (arith, gap.before i below))

  pub rise_after_insert : (n : ℕ) → ConsumersRise l → ConsumersRise (insert l at (k, n))
  rise_after_insert n rise i j lower below =
      let new = insert l at (k, n) in
      let key = λ (x : ℕ × ℕ). x.0 in
      let longer = length-insert l at (k, n) gap.within in
      let key_below : (i : ℕ) → i < at → consumer_at new i ≡ consumer_at l i = λ i less. ap key (get_or-insert_below l at (k, n) (0, 0) i less gap.within) in
      let key_here : (i : ℕ) → i ≡ at → consumer_at new i ≡ k = λ i here. rw here (ap key (get_or-insert_at l at (k, n) (0, 0) gap.within)) in
      let key_above : (i : ℕ) → at < i → consumer_at new i ≡ consumer_at l (i - 1) = λ i above. subst (λ q. consumer_at new q ≡ consumer_at l (i - 1)) {x = i - 1 + 1} (omega arith) (ap key (get_or-insert_above l at (k, n) (0, 0) (i - 1) (omega arith) gap.within)) in
      grind (arith, key_below i, key_here i, key_above i, key_below j, key_here j, key_above j, rise i j, rise i (j - 1), rise (i - 1) (j - 1), gap.before i, gap.after (j - 1))

  -- with the first message of the consumer
  pub first_counted : NumberChanges k (number_at l k + 1) l (insert l at (k, 1))
  first_counted = subst (λ (n : ℕ). NumberChanges k (n + 1) l (insert l at (k, 1))) (sym number_in_gap) (changed_by_insert 1)

  pub none_to_take : NumberChanges k (number_at l k - 1) l l
  none_to_take other = grind (arith, nat_tests, number_in_gap, λ (same : k ≡ other). ap (number_at l) same)
