-- Ranges that stand in their order may be given in any order.
use Rattle.std.proofs.Common.{◌≡◌, ℕ, ◌+◌, ◌≤◌, ◌<◌, suc, cond, List, [], ◌∷◌, length, get_or, drop, drop-cons, add-one, inl, inr, refl, arith}
use Rattle.std.specs.Prelude.{◌↔◌, Bool}
use Rattle.std.specs.List.{AllByRecursion, count_by}
use Rattle.std.specs.List.Sorted.{IsPermutation, IsNonDecreasingBy}
use Rattle.std.proofs.lemmas.Bool.{cases_lt}
use Rattle.std.proofs.lemmas.Bool.Decides.{nat_tests}
use Rattle.std.proofs.lemmas.List.Sums.{sum_by-cons}
use Rattle.std.proofs.lemmas.List.Sorted.{All-permutation, length_permutation, sum_by-IsPermutation, IsPermutation-sym}
use Rattle.std.proofs.lemmas.List.Elements.{recursion_from_All, All-from_recursion}
use Rattle.position_core.specs.declared.ranges.HashRange.{HashRange}
use Rattle.position_core.specs.Ranges.{in_range, IsRangeFrom, Rise, AreRanges, MayBeRanges}

pub rise_within : (from : ℕ) (rs : List HashRange) → Rise from rs → from ≤ 65536
rise_within from [] rise = rise
rise_within from (r ∷ rs) rise = let rest = rise_within (r.last + 1) rs rise.2 in omega (arith, rest, rise.0, rise.1)

-- a range and those behind it
pub rise_on : (from k : ℕ) (rs : List HashRange) (d : HashRange) → k < length rs → Rise from (drop k rs) ↔ (IsRangeFrom from (get_or rs k d) × Rise ((get_or rs k d).last + 1) (drop (k + 1) rs))
rise_on from k rs d within = rw (add-one k, drop-cons rs k d) (on, back)
  where
    on : Rise from (get_or rs k d ∷ drop (suc k) rs) → IsRangeFrom from (get_or rs k d) × Rise ((get_or rs k d).last + 1) (drop (suc k) rs)
    on rise = let rest = rise_within ((get_or rs k d).last + 1) (drop (suc k) rs) rise.2 in ((rise.0, rise.1, omega (arith, rest)), rise.2)

    back : IsRangeFrom from (get_or rs k d) × Rise ((get_or rs k d).last + 1) (drop (suc k) rs) → Rise from (get_or rs k d ∷ drop (suc k) rs)
    back both = (both.0.0, both.0.1, both.1)

abbrev IsRange : HashRange → Type 0
IsRange r = (r.first ≤ r.last) × (r.last < 65536)

-- ---- how many have a hash

counted : (hash : ℕ) (r : HashRange) (rs : List HashRange) → count_by (in_range hash) (r ∷ rs) ≡ cond (in_range hash r) 1 0 + count_by (in_range hash) rs
counted hash r rs = sum_by-cons (λ (r : HashRange). cond {A = ℕ} (in_range hash r) 1 0) r rs

has : (hash : ℕ) (r : HashRange) → r.first ≤ hash → hash ≤ r.last → cond {A = ℕ} (in_range hash r) 1 0 ≡ 1
has hash r from to = grind (arith, nat_tests)

has_before : (hash : ℕ) (r : HashRange) → hash < r.first → cond {A = ℕ} (in_range hash r) 1 0 ≡ 0
has_before hash r before = grind (arith, nat_tests)

has_behind : (hash : ℕ) (r : HashRange) → r.last < hash → cond {A = ℕ} (in_range hash r) 1 0 ≡ 0
has_behind hash r behind = grind (arith, nat_tests)

has_at_most : (b : Bool) → cond {A = ℕ} b 1 0 ≤ 1
has_at_most b = grind (arith, nat_tests)

-- ---- in order: each is a range, and no hash is in two

none_before : (hash from : ℕ) (rs : List HashRange) → hash < from → Rise from rs → count_by (in_range hash) rs ≡ 0
none_before hash from [] low rise = refl
none_before hash from (r ∷ rs) low rise =
    let rest = none_before hash (r.last + 1) rs (omega (arith, low, rise.0, rise.1)) rise.2 in
    let none = has_before hash r (omega (arith, low, rise.0)) in
    let all = counted hash r rs in
    omega (arith, rest, none, all)

once_in_order : (hash from : ℕ) (rs : List HashRange) → Rise from rs → count_by (in_range hash) rs ≤ 1
once_in_order hash from [] rise = omega arith
once_in_order hash from (r ∷ rs) rise =
    let all = counted hash r rs in
    elim (cases_lt r.last hash) [
      | inl behind ↦ let rest = once_in_order hash (r.last + 1) rs rise.2 in let none = has_behind hash r behind in omega (arith, all, rest, none)
      | inr to ↦ let rest = none_before hash (r.last + 1) rs (omega (arith, to)) rise.2 in let one = has_at_most (in_range hash r) in omega (arith, all, rest, one)
    ]

each_in_order : (from : ℕ) (rs : List HashRange) → Rise from rs → AllByRecursion IsRange rs
each_in_order from [] rise = tt
each_in_order from (r ∷ rs) rise = let rest = rise_within (r.last + 1) rs rise.2 in ((rise.1, omega (arith, rest)), each_in_order (r.last + 1) rs rise.2)

-- ---- sorted: where no hash is in two, each stands behind the one before it

behind : (r : HashRange) (rs : List HashRange) → AllByRecursion IsRange rs → AllByRecursion (λ x. r.first ≤ x.first) rs → ((hash : ℕ) → r.first ≤ hash → hash ≤ r.last → count_by (in_range hash) rs ≡ 0)
    → AllByRecursion (λ x. r.last + 1 ≤ x.first) rs
behind r [] each after none = tt
behind r (x ∷ rs) each after none = (here, behind r rs each.1 after.1 (λ hash from to. let all = counted hash x rs in let no = none hash from to in omega (arith, all, no)))
  where
    here : r.last + 1 ≤ x.first
    here = elim (cases_lt r.last x.first) [
      | inl past ↦ omega (arith, past)
      | inr within ↦
          let all = counted x.first x rs in
          let no = none x.first after.0 within in
          let one = has x.first x (omega arith) each.0.0 in
          absurd (omega (arith, all, no, one))
    ]

rises : (from : ℕ) (rs : List HashRange) → from ≤ 65536 → AllByRecursion IsRange rs → AllByRecursion (λ r. from ≤ r.first) rs → IsNonDecreasingBy (λ r. r.first) rs → ((hash : ℕ) → count_by (in_range hash) rs ≤ 1) → Rise from rs
rises from [] low each after sorted once = low
rises from (r ∷ rs) low each after sorted once = (
  after.0,
  each.0.0,
  rises (r.last + 1) rs (omega (arith, each.0.1)) each.1
      (behind r rs each.1
      (recursion_from_All (λ (x : HashRange). r.first ≤ x.first) rs (λ k d within. sorted 0 (suc k) d (omega arith) (omega arith)))
      (λ hash in_r to. let all = counted hash r rs in let one = has hash r in_r to in let most = once hash in omega (arith, all, one, most)))
      (λ i j d le within. sorted (suc i) (suc j) d (omega arith) (omega arith))
      (λ hash. let all = counted hash r rs in let most = once hash in omega (arith, all, most)),
)

-- ---- in any order

first_at_least_zero : (rs : List HashRange) → AllByRecursion (λ r. 0 ≤ r.first) rs
first_at_least_zero [] = tt
first_at_least_zero (r ∷ rs) = (omega arith, first_at_least_zero rs)

pub may_be_ranges : (given sorted : List HashRange) → IsPermutation given sorted → IsNonDecreasingBy (λ r. r.first) sorted → AreRanges sorted ↔ MayBeRanges given
may_be_ranges given sorted moved order = (to, from)
  where
    as_many : length sorted ≡ length given
    as_many = length_permutation given sorted moved

    same_count : (hash : ℕ) → count_by (in_range hash) sorted ≡ count_by (in_range hash) given
    same_count hash = sum_by-IsPermutation (λ (r : HashRange). cond {A = ℕ} (in_range hash r) 1 0) given sorted moved

    to : AreRanges sorted → MayBeRanges given
    to are = record {
      some = let more = are.some in omega (arith, more, as_many);
      few = let few = are.few in omega (arith, few, as_many);
      each = All-permutation IsRange sorted given (IsPermutation-sym given sorted moved) (All-from_recursion IsRange sorted (each_in_order 0 sorted are.rise));
      once = λ hash. let most = once_in_order hash 0 sorted are.rise in let same = same_count hash in omega (arith, most, same);
    }

    from : MayBeRanges given → AreRanges sorted
    from may = record {
      some = let more = may.some in omega (arith, more, as_many);
      few = let few = may.few in omega (arith, few, as_many);
      rise = rises 0 sorted (omega arith) (recursion_from_All IsRange sorted (All-permutation IsRange given sorted moved may.each)) (first_at_least_zero sorted) order
          (λ hash. let most = may.once hash in let same = same_count hash in omega (arith, most, same));
    }
