-- Ranges that rise, as a list and as a function from starts to ends.
use Rattle.std.proofs.Common.{◌≡◌, ℕ, ◌<◌, ◌≤◌, ◌^◌, List, [], ◌∷◌, Some, true, false, cond, ap, ◌∙◌, arith}
use Rattle.std.specs.List.{AllByRecursion}
use Rattle.std.specs.List.Sorted.{IsStrictlySortedBy}
use Rattle.std.specs.Map.{keys_of}
use Rattle.std.specs.Ordering.{nat_cmp, is_eq}
use Rattle.std.specs.declared.cmp.Ordering.TheVariants.{Less}
use Rattle.std.proofs.lemmas.Bool.Decides.{nat_tests}
use Rattle.std.proofs.lemmas.Grind.{common_steps}
use Rattle.ack_ranges.specs.Joining.{AreApart}
use Rattle.ack_ranges.specs.Kept.{AreSmall}
use Rattle.ack_ranges.specs.Ranges.{Rise, RiseAbove}
use Rattle.ack_ranges.proofs.Members.{Sorted, ends_of, first_or_later}

pub rise_of : (a : ℕ) (es : List (ℕ × ℕ)) → RiseAbove a es → Rise es
rise_of a [] h = tt
rise_of a (r ∷ rs) h = (h.1, h.2)

pub rise_rest : (r : ℕ × ℕ) (rs : List (ℕ × ℕ)) → Rise (r ∷ rs) → Rise rs
rise_rest r rs h = rise_of r.1 rs h.1

-- ---- by the function

above_of : (a : ℕ) (es : List (ℕ × ℕ)) (s e : ℕ) → RiseAbove a es → ends_of es s ≡ Some e → (a < s) × (s < e)
above_of a [] s e rise h = cc
above_of a (r ∷ rs) s e rise h = first_or_later r rs s e h
    (λ at ends. (omega (arith, at, rise.0), omega (arith, at, ends, rise.1)))
    (λ h. let b : (r.1 < s) × (s < e) = above_of r.1 rs s e rise.2 h in (omega (arith, b.0, rise.0, rise.1), b.1))

small_of : (es : List (ℕ × ℕ)) (s e : ℕ) → AreSmall es → ends_of es s ≡ Some e → e < 2 ^ 128
small_of [] s e small h = cc
small_of (r ∷ rs) s e small h = first_or_later r rs s e h (λ at ends. omega (arith, ends, small.0)) (λ h. small_of rs s e small.1 h)

apart_of : (a : ℕ) (es : List (ℕ × ℕ)) (s e t u : ℕ) → RiseAbove a es → ends_of es s ≡ Some e → ends_of es t ≡ Some u → s < t → e < t
apart_of a [] s e t u rise h k lt = cc
apart_of a (r ∷ rs) s e t u rise h k lt = first_or_later r rs s e h
    (λ at ends. first_or_later r rs t u k
    (λ at2 ends2. let bad : ⊥ = omega (arith, lt, at, at2) in absurd bad)
    (λ k. let b : (r.1 < t) × (t < u) = above_of r.1 rs t u rise.2 k in omega (arith, ends, b.0)))
    (λ h. let b : (r.1 < s) × (s < e) = above_of r.1 rs s e rise.2 h in
    first_or_later r rs t u k
    (λ at2 ends2. let bad : ⊥ = omega (arith, lt, at2, b.0, rise.1) in absurd bad)
    (λ k. apart_of r.1 rs s e t u rise.2 h k lt))

pub apart_from_rise : (low : ℕ) (es : List (ℕ × ℕ)) → low < 2 ^ 128 → AreSmall es → RiseAbove low es → AreApart low (ends_of es)
apart_from_rise low es few small rise = record {
  low_small = few;
  small = λ s e h. small_of es s e small h;
  above = λ s e h. above_of low es s e rise h;
  apart = λ s e t u h k lt. apart_of low es s e t u rise h k lt;
}

less_is : (x y : ℕ) → x < y → nat_cmp x y ≡ Less
less_is x y h = grind (arith, common_steps)

less_tells : (x y : ℕ) → nat_cmp x y ≡ Less → x < y
less_tells x y h = grind (arith, nat_tests)

all_above : (a x : ℕ) (es : List (ℕ × ℕ)) → x ≤ a → RiseAbove a es → AllByRecursion (λ y. nat_cmp x y ≡ Less) (keys_of es)
all_above a x [] le rise = tt
all_above a x (r ∷ rs) le rise = (less_is x r.0 (omega (arith, le, rise.0)), all_above r.1 x rs (omega (arith, le, rise.0, rise.1)) rise.2)

pub sorted_from_rise : (a : ℕ) (es : List (ℕ × ℕ)) → RiseAbove a es → Sorted es
unfolding IsStrictlySortedBy
sorted_from_rise a [] rise = tt
sorted_from_rise a (r ∷ rs) rise = (all_above r.1 r.0 rs (omega (arith, rise.1)) rise.2, sorted_from_rise r.1 rs rise.2)

key_above : (x : ℕ) (es : List (ℕ × ℕ)) (t u : ℕ) → AllByRecursion (λ y. nat_cmp x y ≡ Less) (keys_of es) → ends_of es t ≡ Some u → x < t
key_above x [] t u all h = cc
key_above x (r ∷ rs) t u all h = first_or_later r rs t u h (λ at ends. let b : x < r.0 = less_tells x r.0 all.0 in omega (arith, at, b)) (λ h. key_above x rs t u all.1 h)

equal_at : (x : ℕ) → is_eq (nat_cmp x x) ≡ true
equal_at x = grind (arith, nat_tests)

other_at : (x y : ℕ) → x < y → is_eq (nat_cmp y x) ≡ false
other_at x y h = grind (arith, nat_tests)

module _ (low : ℕ) (r : ℕ × ℕ) (rs : List (ℕ × ℕ)) (above : AllByRecursion (λ y. nat_cmp r.0 y ≡ Less) (keys_of rs)) (apart : AreApart low (ends_of (r ∷ rs))) where
  at_head : ends_of (r ∷ rs) r.0 ≡ Some r.1
  at_head = ap (λ b. cond b (Some r.1) (ends_of rs r.0)) (equal_at r.0)

  in_tail : (t u : ℕ) → ends_of rs t ≡ Some u → ends_of (r ∷ rs) t ≡ Some u
  in_tail t u h = ap (λ b. cond b (Some r.1) (ends_of rs t)) (other_at r.0 t (key_above r.0 rs t u above h)) ∙ h

  rest_apart : AreApart r.1 (ends_of rs)
  rest_apart = record {
    low_small = apart.small r.0 r.1 at_head;
    small = λ s e h. apart.small s e (in_tail s e h);
    above = λ s e h. (apart.apart r.0 r.1 s e at_head (in_tail s e h) (key_above r.0 rs s e above h), (apart.above s e (in_tail s e h)).1);
    apart = λ s e t u h k lt. apart.apart s e t u (in_tail s e h) (in_tail t u k) lt;
  }

  head_above : (low < r.0) × (r.0 < r.1)
  head_above = apart.above r.0 r.1 at_head

pub rise_from_apart : (low : ℕ) (es : List (ℕ × ℕ)) → Sorted es → AreApart low (ends_of es) → RiseAbove low es
unfolding IsStrictlySortedBy
rise_from_apart low [] sorted apart = tt
rise_from_apart low (r ∷ rs) sorted apart =
    let b : (low < r.0) × (r.0 < r.1) = head_above low r rs sorted.0 apart in
    (b.0, b.1, rise_from_apart r.1 rs sorted.1 (rest_apart low r rs sorted.0 apart))

pub small_from_apart : (low : ℕ) (es : List (ℕ × ℕ)) → Sorted es → AreApart low (ends_of es) → AreSmall es
unfolding IsStrictlySortedBy
small_from_apart low [] sorted apart = tt
small_from_apart low (r ∷ rs) sorted apart =
    let rest : AreApart r.1 (ends_of rs) = rest_apart low r rs sorted.0 apart in
    (rest.low_small, small_from_apart r.1 rs sorted.1 rest)
