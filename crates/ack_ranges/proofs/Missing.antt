-- Which numbers are missing, found by the last range that begins before one.
use Rattle.std.proofs.Common.{◌≡◌, ℕ, zero, suc, ◌<◌, ◌≤◌, ◌+◌, ◌^◌, List, [], ◌∷◌, length, Some, None, true, false, refl, ap, ◌∙◌, sym, arith, inl, inr}
use Rattle.std.specs.Prelude.{◌⊎◌}
use Rattle.std.specs.Option.{is_some, IsSome}
use Rattle.std.specs.Ordering.{nat_cmp, is_lt}
use Rattle.std.specs.FinSet as set
use Rattle.std.proofs.lemmas.Bool.Decides.{nat_tests}
use Rattle.ack_ranges.specs.Joining.{AreApart, IsIn, IsLastUpTo, NoneUpTo, Joins, TakesIn}
use Rattle.ack_ranges.specs.Kept.{set_of, AreSmall, IsEndOf}
use Rattle.ack_ranges.specs.Ranges.{RiseAbove, IsNextMissing, HasGapBefore, MayFollow}
use Rattle.ack_ranges.proofs.Joins.{some_is, none_some, lt_or_ge, ends_below, none_ends_at}
use Rattle.ack_ranges.proofs.Members.{Has, ends_of, has_set, in_set}
use Rattle.ack_ranges.proofs.Rises.{apart_from_rise, sorted_from_rise}
use Rattle.ack_ranges.proofs.Sets.{contains_is, low_before, low_missing}

module _ (low : ℕ) (es : List (ℕ × ℕ)) (rise : RiseAbove low es) (small : AreSmall es) (few : low < 2 ^ 128) where
  as_function : AreApart low (ends_of es)
  as_function = apart_from_rise low es few small rise

  not_in : (q : ℕ) → (q < low → ⊥) → (IsIn (ends_of es) q → ⊥) → set.contains (set_of low es) q ≡ false
  not_in q not_low out = sym (contains_is low es q false (sorted_from_rise low es rise) (λ h. cc) by)
    where
      by : Has low (ends_of es) q → false ≡ true
      by (inl lt) = absurd (not_low lt)
      by (inr h) = absurd (out h)

  pub missing_low : (a : ℕ) → a ≤ low → IsNextMissing (set_of low es) a low
  missing_low a le = record {
    from = le;
    missing = low_missing low es (sorted_from_rise low es rise) as_function;
    before = λ k from to. low_before low es k to;
  }

  end_is_out : (s e : ℕ) → ends_of es s ≡ Some e → IsIn (ends_of es) e → ⊥
  end_is_out s e h i = by (lt_or_ge i.0 s) (lt_or_ge s i.0)
    where
      by : (i.0 < s) ⊎ (s ≤ i.0) → (s < i.0) ⊎ (i.0 ≤ s) → ⊥
      by (inl lt) other =
          let b : i.1 < s = as_function.apart i.0 i.1 s e i.2 h lt in
          let c : (low < s) × (s < e) = as_function.above s e h in omega (arith, b, c.1, i.4)
      by (inr ge) (inl lt) = let b : e < i.0 = as_function.apart s e i.0 i.1 h i.2 lt in omega (arith, b, i.3)
      by (inr ge) (inr le) =
          let at : i.0 ≡ s = omega (arith, ge, le) in
          let same : i.1 ≡ e = some_is (ends_of es) i.0 i.1 e i.2 (ap (ends_of es) at ∙ h) in omega (arith, same, i.4)

  pub missing_end : (a s e : ℕ) → IsLastUpTo (ends_of es) a s e → a < e → IsNextMissing (set_of low es) a e
  missing_end a s e last lt = record {
    from = omega (arith, lt);
    missing =
        let b : (low < s) × (s < e) = as_function.above s e last.0 in
        not_in e (λ h. omega (arith, h, b.0, b.1)) (end_is_out s e last.0);
    before = λ k from to. has_set low es k (inr (s, e, last.0, omega (arith, last.1, from), to));
  }

  itself : (a : ℕ) → set.contains (set_of low es) a ≡ false → IsNextMissing (set_of low es) a a
  itself a out = record { from = omega arith; missing = out; before = λ k from to. absurd (omega (arith, from, to)) }

  pub missing_after : (a s e : ℕ) → IsLastUpTo (ends_of es) a s e → e ≤ a → low ≤ a → IsNextMissing (set_of low es) a a
  missing_after a s e last le above = itself a (not_in a (λ h. omega (arith, h, above)) (ends_below (ends_of es) low a s e as_function last le))

  none_before : (a : ℕ) → NoneUpTo (ends_of es) a → IsIn (ends_of es) a → ⊥
  none_before a none i = none_some (ends_of es) i.0 i.1 (none i.0 i.3) i.2

  pub missing_none : (a : ℕ) → NoneUpTo (ends_of es) a → low ≤ a → IsNextMissing (set_of low es) a a
  missing_none a none above = itself a (not_in a (λ h. omega (arith, h, above)) (none_before a none))

  not_above : (s t : ℕ) → is_lt (nat_cmp s t) ≡ false → t ≤ s
  not_above s t h = grind (arith, nat_tests)

  pub end_of_last : (s e : ℕ) → ends_of es s ≡ Some e → ((q : ℕ) → IsSome (ends_of es q) → is_lt (nat_cmp s q) ≡ false) → IsEndOf (set_of low es) e
  end_of_last s e h greatest = record {
    above = λ k is. above k (from_set k is);
    least = λ k is. has_set low es k (inr (s, e, h, omega (arith, is, bounds.1), omega (arith, is)));
  }
    where
      bounds : (low < s) × (s < e)
      bounds = as_function.above s e h

      from_set : (k : ℕ) → set.contains (set_of low es) k ≡ true → Has low (ends_of es) k
      from_set k is = in_set low es k (sorted_from_rise low es rise) is

      above : (k : ℕ) → Has low (ends_of es) k → k < e
      above k (inl lt) = omega (arith, lt, bounds.0, bounds.1)
      above k (inr i) = by (lt_or_ge i.0 s)
        where
          le : i.0 ≤ s
          le = not_above s i.0 (greatest i.0 (ap is_some i.2))

          by : (i.0 < s) ⊎ (s ≤ i.0) → k < e
          by (inl lt) = let b : i.1 < s = as_function.apart i.0 i.1 s e i.2 h lt in omega (arith, b, bounds.1, i.4)
          by (inr ge) =
              let at : i.0 ≡ s = omega (arith, ge, le) in
              let same : i.1 ≡ e = some_is (ends_of es) i.0 i.1 e i.2 (ap (ends_of es) at ∙ h) in omega (arith, same, i.4)

  -- ---- where a range begins that is to take q

  pub takes_last : (q s e : ℕ) → IsLastUpTo (ends_of es) q s e → q ≡ e → TakesIn (ends_of es) low s q
  takes_last q s e last at = record {
    above = (as_function.above s e last.0).0;
    le = last.1;
    joins = inr (last.0 ∙ ap (λ n. Some n) (sym at));
    out = ends_below (ends_of es) low q s e as_function last (omega (arith, at));
  }

  pub takes_own : (q s e : ℕ) → IsLastUpTo (ends_of es) q s e → e ≤ q → (q ≡ e → ⊥) → low < q → TakesIn (ends_of es) low q q
  takes_own q s e last le other above = record {
    above = above;
    le = omega arith;
    joins = inl (refl, none_ends_at (ends_of es) low q s e as_function last (λ at. other (sym at)));
    out = ends_below (ends_of es) low q s e as_function last le;
  }

  none_ends : (q : ℕ) → NoneUpTo (ends_of es) q → (t : ℕ) → ends_of es t ≡ Some q → ⊥
  none_ends q none t h =
      let b : (low < t) × (t < q) = as_function.above t q h in
      none_some (ends_of es) t q (none t (omega (arith, b.1))) h

  pub takes_first : (q : ℕ) → NoneUpTo (ends_of es) q → low < q → TakesIn (ends_of es) low q q
  takes_first q none above = record { above = above; le = omega arith; joins = inl (refl, none_ends q none); out = none_before q none }

  pub missing_taken : (s q : ℕ) → TakesIn (ends_of es) low s q → set.contains (set_of low es) q ≡ false
  missing_taken s q takes = not_in q (λ h. omega (arith, h, takes.above, takes.le)) takes.out

  -- a range that begins nowhere yet joins none before it
  no_end : (s q : ℕ) → TakesIn (ends_of es) low s q → ends_of es s ≡ None → (t : ℕ) → ends_of es t ≡ Some q → ⊥
  no_end s q takes absent t h = by takes.joins
    where
      by : Joins (ends_of es) s q → ⊥
      by (inl own) = own.1 t h
      by (inr last) = none_some (ends_of es) s q absent last

  before_out : (p s q : ℕ) → p + 1 ≡ q → TakesIn (ends_of es) low s q → ends_of es s ≡ None → IsIn (ends_of es) p → ⊥
  before_out p s q is takes absent i = by (lt_or_ge q i.1)
    where
      by : (q < i.1) ⊎ (i.1 ≤ q) → ⊥
      by (inl lt) = takes.out (i.0, i.1, i.2, omega (arith, i.3, is), lt)
      by (inr ge) = let at : i.1 ≡ q = omega (arith, ge, i.4, is) in no_end s q takes absent i.0 (i.2 ∙ ap (λ n. Some n) at)

  pub gap_before : (s q : ℕ) → TakesIn (ends_of es) low s q → ends_of es s ≡ None → HasGapBefore (set_of low es) q
  gap_before s zero takes absent = absurd (omega (arith, takes.above, takes.le))
  gap_before s (suc p) takes absent = (p, omega arith, not_in p (λ h. omega (arith, h, takes.above, takes.le)) (before_out p s (suc p) (omega arith) takes absent))

none_above : (low k : ℕ) → Has low (ends_of []) k → k < low
none_above low k (inl lt) = lt
none_above low k (inr i) = let bad : None ≡ Some i.1 = i.2 in cc

pub end_of_none : (low : ℕ) (es : List (ℕ × ℕ)) → (0 < length es → false ≡ true) → IsEndOf (set_of low es) low
end_of_none low (r ∷ rs) none = let bad : false ≡ true = none (omega arith) in cc
end_of_none low [] none = record {
  above = λ k is. none_above low k (in_set low [] k (sorted_from_rise low [] tt) is);
  least = λ k is. low_before low [] k (omega (arith, is));
}

-- what the greatest number says of a range that is to follow
pub follows_from : (s : set.FinSet nat_cmp) (last start end : ℕ) → IsEndOf s last → start < end → last < start → MayFollow s start end
follows_from s last start end is some lt = record { some = some; apart = λ k h. let b : k < last = is.above k h in omega (arith, b, lt) }

pub last_before : (s : set.FinSet nat_cmp) (last start end : ℕ) → IsEndOf s last → (last ≡ 0 → ⊥) → MayFollow s start end → last < start
last_before s zero start end is nonzero may = absurd (nonzero refl)
last_before s (suc n) start end is nonzero may = let b : n + 1 < start = may.apart n (is.least n (omega arith)) in omega (arith, b)
