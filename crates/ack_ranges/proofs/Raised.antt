-- A change of the set behind a base is the same change, so much higher, of the set that is kept.
use Rattle.std.proofs.Common.{◌≡◌, ℕ, zero, suc, ◌<◌, ◌≤◌, ◌+◌, ◌-◌, ◌^◌, true, false, ap, sym, ◌∙◌, inl, inr, arith, leb, ltb}
use Rattle.std.specs.Prelude.{◌⊎◌, ◌||◌, ◌&&◌, nat_eq}
use Rattle.std.specs.Ordering.{nat_cmp, eq_by_cmp}
use Rattle.std.specs.Cmp.{nat_cmp_total, unsigned_tied}
use Rattle.std.specs.FinSet as set
use Rattle.std.proofs.lemmas.Bool.{cases_lt, false≢true, false_from_ne_true}
use Rattle.std.proofs.lemmas.Bool.Decides.{nat_tests}
use Rattle.ack_ranges.specs.Lowered.{lowered, IsRaised}
use Rattle.ack_ranges.specs.Ranges.{from_to, below, IsNextMissing, HasGapBefore, MayFollow}
use Rattle.ack_ranges.proofs.Covers.{either, or_first, or_second, contains_below, contains_from_to, same_numbers}
use Rattle.ack_ranges.proofs.Lowering.{contains_lowered, lowered_is}

is_below : (k n : ℕ) → ltb k n ≡ true → k < n
is_below k n test = grind (arith, nat_tests)

below_is : (k n : ℕ) → k < n → ltb k n ≡ true
below_is k n lt = grind (arith, nat_tests)

inside_is : (k a b : ℕ) → a ≤ k → k < b → (leb a k && ltb k b) ≡ true
inside_is k a b from to = grind (arith, nat_tests)

is_inside : (k a b : ℕ) → (leb a k && ltb k b) ≡ true → (a ≤ k) × (k < b)
is_inside k a b test = (grind (arith, nat_tests), grind (arith, nat_tests))

-- ---- no base

pub lowered_none : (s : set.FinSet nat_cmp) → lowered 0 s ≡ s
lowered_none s = lowered_is 0 s s (λ q. let same : 0 + q ≡ q = omega arith in ap (set.contains s) same)

pub raised_below : (end : ℕ) → end < 2 ^ 64 → IsRaised 0 (below end)
raised_below end few = record {
  below = λ k lt. absurd (omega (arith, lt));
  within = λ k is_in. omega (arith, is_below k end (sym (contains_below end k) ∙ is_in), few);
  runs = λ k high is_in. contains_below end k ∙ below_is k end (omega (arith, is_below (k + 1) end (sym (contains_below end (k + 1)) ∙ is_in)));
}

pub raised_none : IsRaised 0 set.empty
raised_none = raised_below 0 (omega arith)

module _ (base : ℕ) (s : set.FinSet nat_cmp) (raised : IsRaised base s) where
  -- ---- one more

  same_place : (q place : ℕ) → nat_eq (base + q) (base + place) ≡ nat_eq q place
  same_place q place = grind (arith, nat_tests)

  tied : (q place : ℕ) → eq_by_cmp nat_cmp (base + q) (base + place) ≡ eq_by_cmp nat_cmp q place
  tied q place = unsigned_tied (base + q) (base + place) ∙ same_place q place ∙ sym (unsigned_tied q place)

  pub lowered_insert : (place : ℕ) → lowered base (set.insert s (base + place)) ≡ set.insert (lowered base s) place
  lowered_insert place = lowered_is base _ _ (λ q.
      set.contains-insert nat_cmp_total s (base + place) (base + q)
      ∙ ap (λ b. b || set.contains s (base + q)) (tied q place)
      ∙ ap (λ b. eq_by_cmp nat_cmp q place || b) (sym (contains_lowered base s q))
      ∙ sym (set.contains-insert nat_cmp_total (lowered base s) place q))

  in_inserted : (n k : ℕ) → set.contains s k ≡ true → set.contains (set.insert s n) k ≡ true
  in_inserted n k is_in = set.contains-insert nat_cmp_total s n k ∙ or_second _ _ is_in

  is_same : (k n : ℕ) → nat_eq k n ≡ true → k ≡ n
  is_same k n test = grind (arith, nat_tests)

  new_or_old : (n k : ℕ) → set.contains (set.insert s n) k ≡ true → (k ≡ n) ⊎ (set.contains s k ≡ true)
  new_or_old n k is_in = elim (either _ _ (sym (set.contains-insert nat_cmp_total s n k) ∙ is_in)) [
    | inl same ↦ inl (is_same k n (sym (unsigned_tied k n) ∙ same))
    | inr old ↦ inr old
  ]

  pub raised_insert : (n place : ℕ) → n ≡ base + place → place + 1 < 2 ^ 64 → (2 ^ 64 ≤ n → (p : ℕ) × (p + 1 ≡ n) × (set.contains s p ≡ true)) → IsRaised base (set.insert s n)
  raised_insert n place at few joins = record {
    below = λ k lt. in_inserted n k (raised.below k lt);
    within = λ k is_in. elim (new_or_old n k is_in) [
      | inl new ↦ omega (arith, new, at, few)
      | inr old ↦ raised.within k old
    ];
    runs = λ k high is_in. elim (new_or_old n (k + 1) is_in) [
      | inl new ↦
          let before = joins (omega (arith, high, new)) in
          let same : before.0 ≡ k = omega (arith, before.1, new) in
          in_inserted n k (ap (set.contains s) (sym same) ∙ before.2)
      | inr old ↦ in_inserted n k (raised.runs k high old)
    ];
  }

  pub gap_lowered : (place : ℕ) → HasGapBefore s (base + place) → HasGapBefore (lowered base s) place
  gap_lowered place gap = elim (cases_lt gap.0 base) [
    | inl lt ↦ absurd (false≢true (sym gap.2 ∙ raised.below gap.0 lt))
    | inr past ↦
        let at : base + (gap.0 - base) ≡ gap.0 = omega (arith, past) in
        (gap.0 - base, omega (arith, past, gap.1), contains_lowered base s (gap.0 - base) ∙ ap (set.contains s) at ∙ gap.2)
  ]

  -- ---- more of them

  in_union : (t : set.FinSet nat_cmp) (k : ℕ) → set.contains s k ≡ true → set.contains (set.union s t) k ≡ true
  in_union t k is_in = set.contains-union nat_cmp_total s t k ∙ or_first _ _ is_in

  in_other : (t : set.FinSet nat_cmp) (k : ℕ) → set.contains t k ≡ true → set.contains (set.union s t) k ≡ true
  in_other t k is_in = set.contains-union nat_cmp_total s t k ∙ or_second _ _ is_in

  lowered_union : (t u : set.FinSet nat_cmp) → ((q : ℕ) → set.contains t (base + q) ≡ set.contains u q) → lowered base (set.union s t) ≡ set.union (lowered base s) u
  lowered_union t u same = lowered_is base _ _ (λ q.
      set.contains-union nat_cmp_total s t (base + q)
      ∙ ap (λ b. set.contains s (base + q) || b) (same q)
      ∙ ap (λ b. b || set.contains u q) (sym (contains_lowered base s q))
      ∙ sym (set.contains-union nat_cmp_total (lowered base s) u q))

  raised_union : (t : set.FinSet nat_cmp) → ((k : ℕ) → set.contains t k ≡ true → k + 1 < base + 2 ^ 64) → ((k : ℕ) → 2 ^ 64 ≤ k + 1 → set.contains t (k + 1) ≡ true → set.contains t k ≡ true) → IsRaised base (set.union s t)
  raised_union t within runs = record {
    below = λ k lt. in_union t k (raised.below k lt);
    within = λ k is_in. elim (either _ _ (sym (set.contains-union nat_cmp_total s t k) ∙ is_in)) [
      | inl one ↦ raised.within k one
      | inr other ↦ within k other
    ];
    runs = λ k high is_in. elim (either _ _ (sym (set.contains-union nat_cmp_total s t (k + 1)) ∙ is_in)) [
      | inl one ↦ in_union t k (raised.runs k high one)
      | inr other ↦ in_other t k (runs k high other)
    ];
  }

  later : (q end : ℕ) → ltb (base + q) (base + end) ≡ ltb q end
  later q end = grind (arith, nat_tests)

  pub lowered_below : (end : ℕ) → lowered base (set.union s (below (base + end))) ≡ set.union (lowered base s) (below end)
  lowered_below end = lowered_union (below (base + end)) (below end) (λ q.
      contains_below (base + end) (base + q) ∙ later q end ∙ sym (contains_below end q))

  pub raised_more : (n end : ℕ) → n ≡ base + end → end < 2 ^ 64 → IsRaised base (set.union s (below n))
  raised_more n end at few = raised_union (below n)
      (λ k is_in. omega (arith, is_below k n (sym (contains_below n k) ∙ is_in), at, few))
      (λ k high is_in. contains_below n k ∙ below_is k n (omega (arith, is_below (k + 1) n (sym (contains_below n (k + 1)) ∙ is_in))))

  between : (q start end : ℕ) → (leb (base + start) (base + q) && ltb (base + q) (base + end)) ≡ (leb start q && ltb q end)
  between q start end = grind (arith, nat_tests)

  pub lowered_from_to : (start end : ℕ) → lowered base (set.union s (from_to (base + start) (base + end))) ≡ set.union (lowered base s) (from_to start end)
  lowered_from_to start end = lowered_union (from_to (base + start) (base + end)) (from_to start end) (λ q.
      contains_from_to (base + start) (base + end) (base + q) ∙ between q start end ∙ sym (contains_from_to start end q))

  pub raised_from_to : (a b end : ℕ) → a < 2 ^ 64 → b ≡ base + end → end < 2 ^ 64 → IsRaised base (set.union s (from_to a b))
  raised_from_to a b end low at few = raised_union (from_to a b)
      (λ k is_in. omega (arith, (is_inside k a b (sym (contains_from_to a b k) ∙ is_in)).1, at, few))
      (λ k high is_in.
      let here = is_inside (k + 1) a b (sym (contains_from_to a b (k + 1)) ∙ is_in) in
      contains_from_to a b k ∙ inside_is k a b (omega (arith, high, low)) (omega (arith, here.1)))

  -- ---- what may follow

  pub follows_lowered : (start end : ℕ) → MayFollow s (base + start) (base + end) → MayFollow (lowered base s) start end
  follows_lowered start end may = record {
    some = omega (arith, may.some);
    apart = λ k is_in. omega (arith, may.apart (base + k) (sym (contains_lowered base s k) ∙ is_in));
  }

  some_before : (start end : ℕ) → (set.len (lowered base s) ≡ 0 → ⊥) → MayFollow (lowered base s) start end → 0 < start
  some_before (suc n) end some may = omega arith
  some_before zero end some may =
      let none : lowered base s ≡ set.empty = same_numbers _ _ (λ q.
      false_from_ne_true _ (λ is_in. omega (arith, may.apart q is_in)) ∙ sym (set.contains-empty nat_cmp q)) in
      absurd (some (ap set.len none ∙ set.len-empty nat_cmp))

  pub lowered_follows : (start end : ℕ) → (base ≡ 0) ⊎ (set.len (lowered base s) ≡ 0 → ⊥) → MayFollow (lowered base s) start end → MayFollow s (base + start) (base + end)
  lowered_follows start end some may = record {
    some = omega (arith, may.some);
    apart = λ k is_in. elim (cases_lt k base) [
      | inl lt ↦ elim some [
        | inl none ↦ absurd (omega (arith, lt, none))
        | inr more ↦ omega (arith, lt, some_before start end more may)
      ]
      | inr past ↦
          let at : base + (k - base) ≡ k = omega (arith, past) in
          omega (arith, past, may.apart (k - base) (contains_lowered base s (k - base) ∙ ap (set.contains s) at ∙ is_in))
    ];
  }

  -- ---- the first ones are forgotten

  module _ (count : ℕ) (all : (k : ℕ) → k < count → set.contains (lowered base s) k ≡ true) where
    below_both : (k : ℕ) → k < base + count → set.contains s k ≡ true
    below_both k lt = elim (cases_lt k base) [
      | inl first ↦ raised.below k first
      | inr past ↦
          let at : base + (k - base) ≡ k = omega (arith, past) in
          ap (set.contains s) (sym at) ∙ sym (contains_lowered base s (k - base)) ∙ all (k - base) (omega (arith, past, lt))
    ]

    pub raised_on : IsRaised (base + count) s
    raised_on = record {
      below = below_both;
      within = λ k is_in. omega (arith, raised.within k is_in);
      runs = raised.runs;
    }

    pub lowered_on : (q : ℕ) → set.contains (lowered (base + count) s) q ≡ set.contains (lowered base s) (count + q)
    lowered_on q =
        let same : base + count + q ≡ base + (count + q) = omega arith in
        contains_lowered (base + count) s q ∙ ap (set.contains s) same ∙ sym (contains_lowered base s (count + q))

    -- from 2^64 on nothing is missing between two that are in
    module _ (low : ℕ) (first : IsNextMissing s 0 low) (high : 2 ^ 64 ≤ base + count) where
      pub passed : base + count ≤ low
      passed = elim (cases_lt low (base + count)) [
        | inl lt ↦ absurd (false≢true (sym first.missing ∙ below_both low lt))
        | inr past ↦ past
      ]

      out_above : (j : ℕ) → set.contains s (low + j) ≡ false
      out_above zero = let same : low + 0 ≡ low = omega arith in ap (set.contains s) same ∙ first.missing
      out_above (suc j) =
          let same : low + suc j ≡ low + j + 1 = omega arith in
          false_from_ne_true _ (λ is_in.
          false≢true (sym (out_above j) ∙ raised.runs (low + j) (omega (arith, passed, high)) (ap (set.contains s) (sym same) ∙ is_in)))

      above_false : (q n : ℕ) → n ≤ q → ltb q n ≡ false
      above_false q n past = grind (arith, nat_tests)

      pub lowered_end : (kept : ℕ) → kept ≡ low - (base + count) → (q : ℕ) → set.contains (below kept) q ≡ set.contains (lowered base s) (count + q)
      lowered_end kept is q =
          let same : base + count + q ≡ base + (count + q) = omega arith in
          let there : set.contains s (base + count + q) ≡ set.contains (lowered base s) (count + q) = ap (set.contains s) same ∙ sym (contains_lowered base s (count + q)) in
          elim (cases_lt q kept) [
            | inl lt ↦ contains_below kept q ∙ below_is q kept lt ∙ sym (first.before (base + count + q) (omega arith) (omega (arith, lt, is, passed))) ∙ there
            | inr past ↦
                let at : low + (base + count + q - low) ≡ base + count + q = omega (arith, past, is) in
                contains_below kept q ∙ above_false q kept past ∙ sym (out_above (base + count + q - low)) ∙ ap (set.contains s) at ∙ there
          ]
