-- The ranges that a text gives, in their order.
use Rattle.std.proofs.Common.{◌≡◌, ℕ, zero, suc, ◌+◌, ◌≤◌, ◌<◌, ◌⊎◌, Bool, true, false, cond, List, [], ◌∷◌, length, get_or, Option, Some, None, inl, inr, refl, sym, ◌∙◌, ap, subst, arith, nat_le, nat_lt}
use Rattle.std.specs.Prelude.{◌↔◌, ◌&&◌, IsSome, IfSome, option_and_then}
use Rattle.std.specs.List.{AllByRecursion}
use Rattle.std.specs.List.Sorted.{IsPermutation, IsNonDecreasingBy}
use Rattle.std.proofs.lemmas.Bool.Decides.{nat_tests}
use Rattle.std.proofs.lemmas.List.Sorted.{All-permutation, IsPermutation-refl, IsPermutation-sym, IsPermutation-trans, IsPermutation-cons, IsPermutation-middle}
use Rattle.std.proofs.lemmas.List.Elements.{recursion_from_All, All-from_recursion}
use Rattle.position_core.specs.declared.ranges.HashRange.{HashRange}
use Rattle.value_texts.specs.declared.ranges_text.LeadingZeros.{LeadingZeros}
use Rattle.position_core.specs.Ranges.{Rise, AreRanges, MayBeRanges}
use Rattle.value_texts.specs.RangesText.{are_ranges, if_ranges, in_order, ranges_given, ranges_of, rises, with_range}
use Rattle.position_core.proofs.RangesInOrder.{may_be_ranges}

-- ---- the order has what was given

with_range_moved : (r : HashRange) (rs : List HashRange) → IsPermutation (r ∷ rs) (with_range r rs)
with_range_moved r [] = IsPermutation-refl (r ∷ [])
with_range_moved r (q ∷ rs) = by (nat_le r.first q.first) (with_range_moved r rs)
  where
    by : (b : Bool) → IsPermutation (r ∷ rs) (with_range r rs) → IsPermutation (r ∷ q ∷ rs) (cond b (r ∷ q ∷ rs) (q ∷ with_range r rs))
    by true rest = IsPermutation-refl (r ∷ q ∷ rs)
    by false rest =
        IsPermutation-trans (r ∷ q ∷ rs) (q ∷ r ∷ rs) (q ∷ with_range r rs)
        (IsPermutation-middle (r ∷ []) q rs)
        (IsPermutation-cons q (r ∷ rs) (with_range r rs) rest)

moved : (given : List HashRange) → IsPermutation given (in_order given)
moved [] = IsPermutation-refl []
moved (r ∷ rs) =
    IsPermutation-trans (r ∷ rs) (r ∷ in_order rs) (with_range r (in_order rs))
    (IsPermutation-cons r rs (in_order rs) (moved rs))
    (with_range_moved r (in_order rs))

-- ---- it is an order

abbrev AreFrom : ℕ → List HashRange → Type 0
AreFrom from rs = AllByRecursion (λ r. from ≤ r.first) rs

abbrev AreSorted : List HashRange → Type 0
AreSorted [] = Unit {0}
AreSorted (r ∷ rs) = AreFrom r.first rs × AreSorted rs

from_less : (m n : ℕ) (rs : List HashRange) → m ≤ n → AreFrom n rs → AreFrom m rs
from_less m n [] le from = tt
from_less m n (r ∷ rs) le from = (omega (arith, le, from.0), from_less m n rs le from.1)

with_range_from : (n : ℕ) (r : HashRange) (rs : List HashRange) → n ≤ r.first → AreFrom n rs → AreFrom n (with_range r rs)
with_range_from n r [] le from = (le, tt)
with_range_from n r (q ∷ rs) le from = by (nat_le r.first q.first) (with_range_from n r rs le from.1)
  where
    by : (b : Bool) → AreFrom n (with_range r rs) → AreFrom n (cond b (r ∷ q ∷ rs) (q ∷ with_range r rs))
    by true rest = (le, from)
    by false rest = (from.0, rest)

with_range_sorted : (r : HashRange) (rs : List HashRange) → AreSorted rs → AreSorted (with_range r rs)
with_range_sorted r [] sorted = (tt, tt)
with_range_sorted r (q ∷ rs) sorted = by (nat_le r.first q.first) refl (with_range_sorted r rs sorted.1)
  where
    by : (b : Bool) → nat_le r.first q.first ≡ b → AreSorted (with_range r rs) → AreSorted (cond b (r ∷ q ∷ rs) (q ∷ with_range r rs))
    by true e rest =
        let le : r.first ≤ q.first = grind (arith, nat_tests) in
        ((le, from_less r.first q.first rs le sorted.0), sorted)
    by false e rest =
        let le : q.first ≤ r.first = grind (arith, nat_tests) in
        (with_range_from q.first r rs le sorted.0, rest)

sorted : (given : List HashRange) → AreSorted (in_order given)
sorted [] = tt
sorted (r ∷ rs) = with_range_sorted r (in_order rs) (sorted rs)

from_at : (n k : ℕ) (rs : List HashRange) (d : HashRange) → AreFrom n rs → k < length rs → n ≤ (get_or rs k d).first
from_at n k [] d from below = absurd (omega (arith, below))
from_at n zero (r ∷ rs) d from below = from.0
from_at n (suc k) (r ∷ rs) d from below = from_at n k rs d from.1 (omega (arith, below))

by_index : (rs : List HashRange) → AreSorted rs → IsNonDecreasingBy (λ r. r.first) rs
by_index [] so i j d le below = absurd (omega (arith, below))
by_index (r ∷ rs) so zero zero d le below = omega arith
by_index (r ∷ rs) so zero (suc j) d le below = from_at r.first j rs d so.0 (omega (arith, below))
by_index (r ∷ rs) so (suc i) zero d le below = absurd (omega (arith, le))
by_index (r ∷ rs) so (suc i) (suc j) d le below = by_index rs so.1 i j d (omega (arith, le)) (omega (arith, below))

-- ---- ranges that rise are one list

abbrev IsIn : HashRange → List HashRange → Type 0
IsIn x [] = ⊥
IsIn x (y ∷ ys) = (x ≡ y) ⊎ IsIn x ys

still_in : (y : HashRange) (ys xs : List HashRange) → AllByRecursion (λ x. IsIn x ys) xs → AllByRecursion (λ x. IsIn x (y ∷ ys)) xs
still_in y ys [] all = tt
still_in y ys (x ∷ xs) all = (inr all.0, still_in y ys xs all.1)

each_in : (xs : List HashRange) → AllByRecursion (λ x. IsIn x xs) xs
each_in [] = tt
each_in (x ∷ xs) = (inl refl, still_in x xs xs (each_in xs))

in_of : (xs ys : List HashRange) → IsPermutation xs ys → AllByRecursion (λ y. IsIn y xs) ys
in_of xs ys same = recursion_from_All (λ y. IsIn y xs) ys (All-permutation (λ y. IsIn y xs) xs ys same (All-from_recursion (λ y. IsIn y xs) xs (each_in xs)))

behind : (from : ℕ) (x : HashRange) (xs : List HashRange) → Rise from xs → IsIn x xs → from ≤ x.first
behind from x [] rise here = absurd here
behind from x (y ∷ ys) rise (inl same) = subst (λ (z : HashRange). from ≤ z.first) (sym same) rise.0
behind from x (y ∷ ys) rise (inr here) = let le = behind (y.last + 1) x ys rise.2 here in omega (arith, le, rise.0, rise.1)

without : (from : ℕ) (y : HashRange) (ys xs : List HashRange) → y.first < from → Rise from xs → AllByRecursion (λ x. IsIn x (y ∷ ys)) xs → AllByRecursion (λ x. IsIn x ys) xs
without from y ys [] before rise all = tt
without from y ys (x ∷ xs) before rise all = (here all.0, without (x.last + 1) y ys xs (omega (arith, before, rise.0, rise.1)) rise.2 all.1)
  where
    here : IsIn x (y ∷ ys) → IsIn x ys
    here (inl same) = let first : x.first ≡ y.first = ap (λ (z : HashRange). z.first) same in absurd (omega (arith, first, before, rise.0))
    here (inr there) = there

one_head : (x y : HashRange) (xs ys : List HashRange) → x.first ≤ x.last → y.first ≤ y.last → Rise (x.last + 1) xs → Rise (y.last + 1) ys → (x ≡ y) ⊎ IsIn x ys → (y ≡ x) ⊎ IsIn y xs → x ≡ y
one_head x y xs ys within within_too rise rise_too (inl same) too = same
one_head x y xs ys within within_too rise rise_too (inr later) (inl same) = sym same
one_head x y xs ys within within_too rise rise_too (inr later) (inr later_too) =
    let after = behind (y.last + 1) x ys rise_too later in
    let after_too = behind (x.last + 1) y xs rise later_too in
    absurd (omega (arith, after, after_too, within, within_too))

one_list : (from to : ℕ) (xs ys : List HashRange) → Rise from xs → Rise to ys → AllByRecursion (λ x. IsIn x ys) xs → AllByRecursion (λ y. IsIn y xs) ys → xs ≡ ys
one_list from to [] [] rise rise_too all all_too = refl
one_list from to [] (y ∷ ys) rise rise_too all all_too = absurd all_too.0
one_list from to (x ∷ xs) [] rise rise_too all all_too = absurd all.0
one_list from to (x ∷ xs) (y ∷ ys) rise rise_too all all_too =
    let head = one_head x y xs ys rise.1 rise_too.1 rise.2 rise_too.2 all.0 all_too.0 in
    let first : x.first ≡ y.first = ap (λ (z : HashRange). z.first) head in
    let tail =
    one_list (x.last + 1) (y.last + 1) xs ys rise.2 rise_too.2
    (without (x.last + 1) y ys xs (omega (arith, first, rise.1)) rise.2 all.1)
    (without (y.last + 1) x xs ys (omega (arith, first, rise_too.1)) rise_too.2 all_too.1) in
    cc (head, tail)

-- ---- the test of ranges

at_most : (m n : ℕ) → nat_le m n ≡ true → m ≤ n
at_most m n e = grind (arith, nat_tests)

below : (m n : ℕ) → nat_lt m n ≡ true → m < n
below m n e = grind (arith, nat_tests)

no_third : (c : Bool) → (true && false && c) ≡ true → ⊥
no_third true e = cc e
no_third false e = cc e

no_more : (b c : Bool) → (false && b && c) ≡ true → ⊥
no_more true true e = cc e
no_more true false e = cc e
no_more false true e = cc e
no_more false false e = cc e

both : (a b c : Bool) → (a && b && c) ≡ true → (a ≡ true) × (b ≡ true) × (c ≡ true)
both true true true e = (refl, refl, refl)
both true true false e = cc e
both true false c e = absurd (no_third c e)
both false b c e = absurd (no_more b c e)

do_rise : (from : ℕ) (rs : List HashRange) → rises from rs ≡ true → Rise from rs
do_rise from [] e = grind (arith, nat_tests)
do_rise from (r ∷ rs) e =
    let each = both (nat_le from r.first) (nat_le r.first r.last) (rises (r.last + 1) rs) e in
    (at_most from r.first each.0, at_most r.first r.last each.1, do_rise (r.last + 1) rs each.2)

rise_passes : (from : ℕ) (rs : List HashRange) → Rise from rs → rises from rs ≡ true
rise_passes from [] rise = grind (arith, nat_tests)
rise_passes from (r ∷ rs) rise =
    let after : nat_le from r.first ≡ true = let le = rise.0 in grind (arith, nat_tests) in
    let within : nat_le r.first r.last ≡ true = let le = rise.1 in grind (arith, nat_tests) in
    rw (after, within) (rise_passes (r.last + 1) rs rise.2)

passes : (rs : List HashRange) → AreRanges rs → are_ranges rs ≡ true
passes rs are =
    let some : nat_lt 0 (length rs) ≡ true = let lt = are.some in grind (arith, nat_tests) in
    let few : nat_le (length rs) 64 ≡ true = let le = are.few in grind (arith, nat_tests) in
    rw (some, few) (rise_passes 0 rs are.rise)

are : (rs : List HashRange) → are_ranges rs ≡ true → AreRanges rs
are rs e =
    let each = both (nat_lt 0 (length rs)) (nat_le (length rs) 64) (rises 0 rs) e in
    record { some = below 0 (length rs) each.0; few = at_most (length rs) 64 each.1; rise = do_rise 0 rs each.2 }

-- ---- what comes of the ranges that are given

its_order : (given : List HashRange) → AreRanges (in_order given) ↔ MayBeRanges given
its_order given = may_be_ranges given (in_order given) (moved given) (by_index (in_order given) (sorted given))

pub of_given : (given : List HashRange) (found : Option (List HashRange)) → (IsSome found ↔ MayBeRanges given) → IfSome found (λ rs. IsPermutation given rs) → IfSome found AreRanges → found ≡ if_ranges (in_order given)
of_given given None fits value within = by (are_ranges (in_order given)) refl
  where
    by : (b : Bool) → are_ranges (in_order given) ≡ b → None ≡ cond b (Some (in_order given)) None
    by false e = refl
    by true e = cc (fits.1 ((its_order given).0 (are (in_order given) e)))
of_given given (Some rs) fits value within =
    let order : AreRanges (in_order given) = (its_order given).1 (fits.0 refl) in
    let good : are_ranges (in_order given) ≡ true = passes (in_order given) order in
    let same : IsPermutation rs (in_order given) = IsPermutation-trans rs given (in_order given) (IsPermutation-sym given rs value) (moved given) in
    let is : rs ≡ in_order given = one_list 0 0 rs (in_order given) within.rise order.rise (in_of (in_order given) rs (IsPermutation-sym rs (in_order given) same)) (in_of rs (in_order given) same) in
    ap Some is ∙ sym (ap (λ b. cond b (Some (in_order given)) None) good)

pub of_text : (zeros : LeadingZeros) (text : List ℕ) (given : List HashRange) (found : Option (List HashRange)) → ranges_given zeros text ≡ Some given → found ≡ if_ranges (in_order given) → found ≡ ranges_of zeros text
of_text zeros text given found there is = is ∙ sym (ap (option_and_then (λ (rs : List HashRange). if_ranges (in_order rs))) there)
