-- Halving a log whose positions rise.
use Rattle.std.proofs.Common.{Bool, cond, ◌≡◌, ℕ, ◌+◌, ◌<◌, ◌≤◌, true, false, List, [], ◌∷◌, map, length, Option, Some, None, refl, ap, sym, ◌∙◌, position, get_or, inl, inr, arith}
use Rattle.std.specs.Prelude.{nat_lt}
use Rattle.std.specs.List.{slice_get, position_or_len}
use Rattle.std.specs.List.Sorted.{IsStrictlySortedBy}
use Rattle.std.specs.Ordering.{is_eq, ordering_reverse}
use Rattle.std.specs.declared.cmp.Ordering.{Ordering}
use Rattle.std.specs.declared.cmp.Ordering.TheVariants.{Less, Equal, Greater}
use Rattle.std.proofs.lemmas.Bool.{cases_lt, false≢true}
use Rattle.std.proofs.lemmas.Bool.Decides.{nat_tests}
use Rattle.std.proofs.lemmas.List.{length-map}
use Rattle.std.proofs.lemmas.List.Sums.{fails_before_first}
use Rattle.std.proofs.lemmas.List.Quantifiers.{position-Some}
use Rattle.std.proofs.lemmas.Map.Keys.{Less-from_sorted}
use Rattle.std.proofs.lemmas.Option.{slice_get_within, get_or_from_slice_get}
use Rattle.std.proofs.Math.ListN.{get_or-map}
use Rattle.position_core.specs.declared.position.Position.{Position}
use Rattle.position_core.specs.declared.message.Entry.{Entry}
use Rattle.position_core.specs.Position.{position_cmp, positions_total, exact_positions}
use Rattle.log_pieces.specs.Pieces.{index_of, stands_at}

-- ---- where nothing passes

chosen_none : (b : Bool) (n : ℕ) → cond b (Some n) None ≡ None → b ≡ false
chosen_none true n e = cc
chosen_none false n e = refl

pub fails_everywhere : {A : Type 0} (p : A → Bool) (xs : List A) → position p xs ≡ None → (k : ℕ) (d : A) → k < length xs → p (get_or xs k d) ≡ false
fails_everywhere p xs is k d below =
    let past : nat_lt (position_or_len p xs) (length xs) ≡ false = chosen_none _ _ is in
    let before : k < position_or_len p xs = grind (arith, nat_tests) in
    fails_before_first p xs k d before

-- ---- halving

abbrev pub IsRising : List Entry → Type 0
IsRising log = IsStrictlySortedBy position_cmp (map (λ e. e.position) log)

-- what stands before the first index is earlier than the position, and what stands from the second on is later
pub record IsBetween (log : List Entry) (at : Position) (low high : ℕ) : Type 0 where
  pub ordered : low ≤ high
  pub within : high ≤ length log
  pub before : (k : ℕ) (d : Entry) → k < low → position_cmp (get_or log k d).position at ≡ Less
  pub after : (k : ℕ) (d : Entry) → high ≤ k → k < length log → position_cmp at (get_or log k d).position ≡ Less

pub begins : (log : List Entry) (at : Position) → IsBetween log at 0 (length log)
begins log at = record {
  ordered = omega arith;
  within = omega arith;
  before = λ k d low. absurd (omega arith);
  after = λ k d high low. absurd (omega arith);
}

earlier : (log : List Entry) (i j : ℕ) (d : Entry) → IsRising log → i < j → j < length log → position_cmp (get_or log i d).position (get_or log j d).position ≡ Less
earlier log i j d rising low within =
    let f : Entry → Position = λ e. e.position in
    let keys : List Position = map f log in
    let a : get_or keys i d.position ≡ (get_or log i d).position = get_or-map f log i d in
    let b : get_or keys j d.position ≡ (get_or log j d).position = get_or-map f log j d in
    let less : position_cmp (get_or keys i d.position) (get_or keys j d.position) ≡ Less = Less-from_sorted position_cmp keys i j d.position rising low (omega (arith, length-map log f)) in
    sym (ap (λ (p : Position). position_cmp p (get_or keys j d.position)) a ∙ ap (λ (p : Position). position_cmp (get_or log i d).position p) b) ∙ less

later : (p q : Position) → position_cmp p q ≡ Greater → position_cmp q p ≡ Less
later p q e = positions_total.antisymm q p ∙ ap (λ (r : Ordering). ordering_reverse r) e

pub steps_up : (log : List Entry) (at : Position) (low high middle : ℕ) (m : Entry) → IsRising log → IsBetween log at low high → middle < high → slice_get log middle ≡ Some m → position_cmp m.position at ≡ Less → IsBetween log at (middle + 1) high
steps_up log at low high middle m rising between inside here less = record {
  ordered = omega arith;
  within = between.within;
  before = up_to;
  after = between.after;
}
  where
    at_middle : (d : Entry) → position_cmp (get_or log middle d).position at ≡ Less
    at_middle d = ap (λ (e : Entry). position_cmp e.position at) (get_or_from_slice_get log middle m d here) ∙ less

    up_to : (k : ℕ) (d : Entry) → k < middle + 1 → position_cmp (get_or log k d).position at ≡ Less
    up_to k d low = elim (cases_lt k middle) [
      | inl before ↦ positions_total.trans (get_or log k d).position (get_or log middle d).position at (earlier log k middle d rising before (slice_get_within log middle m here)) (at_middle d)
      | inr beyond ↦
          let same : middle ≡ k = omega arith in
          ap (λ (n : ℕ). position_cmp (get_or log n d).position at) (sym same) ∙ at_middle d
    ]

pub steps_down : (log : List Entry) (at : Position) (low high middle : ℕ) (m : Entry) → IsRising log → IsBetween log at low high → low ≤ middle → slice_get log middle ≡ Some m → position_cmp m.position at ≡ Greater → IsBetween log at low middle
steps_down log at low high middle m rising between inside here greater = record {
  ordered = inside;
  within = omega (arith, slice_get_within log middle m here);
  before = between.before;
  after = from;
}
  where
    at_middle : (d : Entry) → position_cmp at (get_or log middle d).position ≡ Less
    at_middle d = ap (λ (e : Entry). position_cmp at e.position) (get_or_from_slice_get log middle m d here) ∙ later m.position at greater

    from : (k : ℕ) (d : Entry) → middle ≤ k → k < length log → position_cmp at (get_or log k d).position ≡ Less
    from k d high within = elim (cases_lt middle k) [
      | inl before ↦ positions_total.trans at (get_or log middle d).position (get_or log k d).position (at_middle d) (earlier log middle k d rising before within)
      | inr beyond ↦
          let same : middle ≡ k = omega arith in
          ap (λ (n : ℕ). position_cmp at (get_or log n d).position) (sym same) ∙ at_middle d
    ]

-- ---- what was found

not_earlier : (e : Entry) (at : Position) → position_cmp e.position at ≡ Less → stands_at at e ≡ false
not_earlier e at less = ap (λ (r : Ordering). is_eq r) less

not_later : (e : Entry) (at : Position) → position_cmp at e.position ≡ Less → stands_at at e ≡ false
not_later e at less = ap (λ (r : Ordering). is_eq r) (positions_total.antisymm e.position at ∙ ap (λ (r : Ordering). ordering_reverse r) less)

pub nowhere : (log : List Entry) (at : Position) (low high : ℕ) → IsBetween log at low high → high ≤ low → None ≡ index_of at log
nowhere log at low high between over = sym (by (index_of at log) refl)
  where
    fails : (k : ℕ) (d : Entry) → k < length log → stands_at at (get_or log k d) ≡ false
    fails k d within = elim (cases_lt k low) [
      | inl before ↦ not_earlier (get_or log k d) at (between.before k d before)
      | inr beyond ↦ not_later (get_or log k d) at (between.after k d (omega arith) within)
    ]

    at_some : (xs : List Entry) (i : ℕ) → position (stands_at at) xs ≡ Some i → ((k : ℕ) (d : Entry) → k < length xs → stands_at at (get_or xs k d) ≡ false) → ⊥
    at_some [] i e fails = cc
    at_some (x ∷ xs) i e fails =
        let is = position-Some (stands_at at) (x ∷ xs) i x e in
        false≢true (sym (fails i x is.0) ∙ is.1)

    by : (r : Option ℕ) → index_of at log ≡ r → index_of at log ≡ None
    by None e = e
    by (Some i) e = absurd (at_some log i e fails)

pub found : (log : List Entry) (at : Position) (middle : ℕ) (m : Entry) → IsRising log → slice_get log middle ≡ Some m → position_cmp m.position at ≡ Equal → Some middle ≡ index_of at log
found log at middle m rising here equal = sym (by (index_of at log) refl)
  where
    is_it : stands_at at (get_or log middle m) ≡ true
    is_it = ap (λ (e : Entry). stands_at at e) (get_or_from_slice_get log middle m m here) ∙ ap (λ (r : Ordering). is_eq r) equal

    same : (get_or log middle m).position ≡ at
    same = ap (λ (e : Entry). e.position) (get_or_from_slice_get log middle m m here) ∙ exact_positions m.position at equal

    by : (r : Option ℕ) → index_of at log ≡ r → index_of at log ≡ Some middle
    by None e = absurd (false≢true (sym (fails_everywhere (stands_at at) log e middle m (slice_get_within log middle m here)) ∙ is_it))
    by (Some i) e =
        let is = position-Some (stands_at at) log i m e in
        elim (cases_lt i middle) [
          | inl before ↦
              let less = earlier log i middle m rising before (slice_get_within log middle m here) in
              absurd (false≢true (sym (not_earlier (get_or log i m) at (ap (λ (p : Position). position_cmp (get_or log i m).position p) (sym same) ∙ less)) ∙ is.1))
          | inr beyond ↦ elim (cases_lt middle i) [
            | inl after ↦ absurd (false≢true (sym (is.2 middle after) ∙ is_it))
            | inr not_after ↦ let one : i ≡ middle = omega arith in e ∙ ap Some one
          ]
        ]

-- ---- where none passes, the first that does stands past the end

pub at_the_end : (i n : ℕ) → i ≤ n → None ≡ cond (nat_lt i n) (Some i) None → n ≡ i
at_the_end i n within nowhere = grind (arith, nat_tests)
