-- A set has one list of ranges, and is kept in one way.
use Rattle.std.proofs.Common.{◌≡◌, ℕ, zero, suc, ◌<◌, ◌≤◌, ◌+◌, List, [], ◌∷◌, length, Bool, true, false, refl, ap, ◌∙◌, sym, arith, leb, ltb, inl, inr}
use mir.Val.{bool_byte}
use Rattle.std.specs.Prelude.{◌⊎◌, ◌||◌, ◌&&◌}
use Rattle.std.specs.Ordering.{nat_cmp}
use Rattle.std.specs.FinSet as set
use Rattle.std.proofs.lemmas.Bool.Decides.{nat_tests}
use Rattle.ack_ranges.specs.Kept.{set_of, with_low}
use Rattle.ack_ranges.specs.Ranges.{Rise, RiseAbove, AreRangesOf}
use Rattle.ack_ranges.proofs.Covers.{covers, contains_set_of, contains_spread, same_numbers, in_first}
use Rattle.ack_ranges.proofs.Joins.{lt_or_ge}
use Rattle.ack_ranges.proofs.Rises.{rise_of}
use Rattle.ack_ranges.proofs.Sizes.{above_covers}

differ : {P : Type 0} (a b : Bool) → a ≡ b → a ≡ true → b ≡ false → P
differ a b same one other = cc

before_first : (s e q : ℕ) (b : Bool) → q < s → b ≡ false → ((leb s q && ltb q e) || b) ≡ false
before_first s e q b lt h = grind (arith, nat_tests)

at_end : (s e : ℕ) (b : Bool) → b ≡ false → ((leb s e && ltb e e) || b) ≡ false
at_end s e b h = grind (arith, nat_tests)

module _ (r t : ℕ × ℕ) (rs ts : List (ℕ × ℕ)) (rise : (r.0 < r.1) × RiseAbove r.1 rs) (rise2 : (t.0 < t.1) × RiseAbove t.1 ts) (same : (q : ℕ) → covers (r ∷ rs) q ≡ covers (t ∷ ts) q) where
  start_le : t.0 ≤ r.0
  start_le = by (lt_or_ge r.0 t.0)
    where
      by : (r.0 < t.0) ⊎ (t.0 ≤ r.0) → t.0 ≤ r.0
      by (inr ge) = ge
      by (inl lt) = differ _ _ (same r.0) (in_first r.0 r.1 r.0 (covers rs r.0) (omega arith) rise.0) (before_first t.0 t.1 r.0 (covers ts r.0) lt (above_covers t.1 ts r.0 rise2.1 (omega (arith, lt, rise2.0))))

  end_le : r.0 ≡ t.0 → t.1 ≤ r.1
  end_le at = by (lt_or_ge r.1 t.1)
    where
      by : (r.1 < t.1) ⊎ (t.1 ≤ r.1) → t.1 ≤ r.1
      by (inr ge) = ge
      by (inl lt) = differ _ _ (sym (same r.1)) (in_first t.0 t.1 r.1 (covers ts r.1) (omega (arith, at, rise.0)) lt) (at_end r.0 r.1 (covers rs r.1) (above_covers r.1 rs r.1 rise.1 (omega arith)))

past_first : (s e t u q : ℕ) (b c : Bool) → e ≡ u → u ≤ q → ((leb s q && ltb q e) || b) ≡ ((leb t q && ltb q u) || c) → b ≡ c
past_first s e t u q b c ends from h = grind (arith, nat_tests)

rest_same : (r t : ℕ × ℕ) (rs ts : List (ℕ × ℕ)) → RiseAbove r.1 rs → RiseAbove t.1 ts → r.1 ≡ t.1 → ((q : ℕ) → covers (r ∷ rs) q ≡ covers (t ∷ ts) q) → (q : ℕ) → covers rs q ≡ covers ts q
rest_same r t rs ts rise rise2 ends same q = by (lt_or_ge q t.1)
  where
    by : (q < t.1) ⊎ (t.1 ≤ q) → covers rs q ≡ covers ts q
    by (inl lt) = above_covers r.1 rs q rise (omega (arith, lt, ends)) ∙ sym (above_covers t.1 ts q rise2 (omega (arith, lt)))
    by (inr ge) = past_first r.0 r.1 t.0 t.1 q (covers rs q) (covers ts q) ends ge (same q)

pair_list : (a b c d : ℕ) (rs ts : List (ℕ × ℕ)) → a ≡ c → b ≡ d → rs ≡ ts → ((a, b) ∷ rs) ≡ ((c, d) ∷ ts)
pair_list a b c d rs ts starts ends rest = cc

same_ranges : (es fs : List (ℕ × ℕ)) → Rise es → Rise fs → ((q : ℕ) → covers es q ≡ covers fs q) → es ≡ fs
same_ranges [] [] rise rise2 same = refl
same_ranges [] (t ∷ ts) rise rise2 same = differ _ _ (sym (same t.0)) (in_first t.0 t.1 t.0 (covers ts t.0) (omega arith) rise2.0) refl
same_ranges (r ∷ rs) [] rise rise2 same = differ _ _ (same r.0) (in_first r.0 r.1 r.0 (covers rs r.0) (omega arith) rise.0) refl
same_ranges (r ∷ rs) (t ∷ ts) rise rise2 same =
    let flip : (q : ℕ) → covers (t ∷ ts) q ≡ covers (r ∷ rs) q = λ q. sym (same q) in
    let a : t.0 ≤ r.0 = start_le r t rs ts rise rise2 same in
    let b : r.0 ≤ t.0 = start_le t r ts rs rise2 rise flip in
    let starts : r.0 ≡ t.0 = omega (arith, a, b) in
    let c : t.1 ≤ r.1 = end_le r t rs ts rise rise2 same starts in
    let d : r.1 ≤ t.1 = end_le t r ts rs rise2 rise flip (sym starts) in
    let ends : r.1 ≡ t.1 = omega (arith, c, d) in
    pair_list r.0 r.1 t.0 t.1 rs ts starts ends (same_ranges rs ts (rise_of r.1 rs rise.1) (rise_of t.1 ts rise2.1) (rest_same r t rs ts rise.1 rise2.1 ends same))

-- a set has no two lists of ranges
pub ranges_unique : (s : set.FinSet nat_cmp) (es fs : List (ℕ × ℕ)) → AreRangesOf s es → AreRangesOf s fs → es ≡ fs
ranges_unique s es fs a b = same_ranges es fs a.rise b.rise (λ q. sym (contains_spread es q) ∙ ap (λ t. set.contains t q) (sym a.numbers ∙ b.numbers) ∙ contains_spread fs q)

-- ---- all ranges, the one from 0 too

from_zero : (n q : ℕ) (b : Bool) → (ltb q n || b) ≡ ((leb 0 q && ltb q n) || b)
from_zero n q b = grind (arith, nat_tests)

with_low_covers : (low : ℕ) (es : List (ℕ × ℕ)) (q : ℕ) → (ltb q low || covers es q) ≡ covers (with_low low es) q
with_low_covers zero es q = not_below q (covers es q)
  where
    not_below : (q : ℕ) (b : Bool) → (ltb q 0 || b) ≡ b
    not_below q b = grind (arith, nat_tests)
with_low_covers (suc n) es q = from_zero (suc n) q (covers es q)

with_low_rise : (low : ℕ) (es : List (ℕ × ℕ)) → RiseAbove low es → Rise (with_low low es)
with_low_rise zero es rise = rise_of 0 es rise
with_low_rise (suc n) es rise = (omega arith, rise)

pub all_ranges : (low : ℕ) (es : List (ℕ × ℕ)) → RiseAbove low es → AreRangesOf (set_of low es) (with_low low es)
all_ranges low es rise = record {
  numbers = same_numbers _ _ (λ q. contains_set_of low es q ∙ with_low_covers low es q ∙ sym (contains_spread (with_low low es) q));
  rise = with_low_rise low es rise;
}

some_low : (n : ℕ) → ltb 0 (suc n) ≡ true
some_low n = grind (arith, nat_tests)

pub length_all : (low : ℕ) (es : List (ℕ × ℕ)) (more : ℕ) → more ≡ bool_byte (ltb 0 low) → length es + more ≡ length (with_low low es)
length_all zero es more is = let b : more ≡ 0 = is in omega (arith, b)
length_all (suc n) es more is = let b : more ≡ 1 = is ∙ ap bool_byte (some_low n) in omega (arith, b)
