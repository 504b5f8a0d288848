-- Membership as a test: in the numbers below low, or in one of the ranges.
use Rattle.std.proofs.Common.{◌≡◌, ℕ, zero, suc, ◌<◌, ◌≤◌, ◌+◌, ◌-◌, List, [], ◌∷◌, ◌++◌, Bool, true, false, refl, ap, ◌∙◌, arith, leb, ltb, inl, inr}
use Rattle.std.specs.Prelude.{◌⊎◌, ◌||◌, ◌&&◌, nat_eq}
use Rattle.std.specs.List.{list_any}
use Rattle.std.specs.Ordering.{nat_cmp}
use Rattle.std.specs.Cmp.{nat_cmp_total}
use Rattle.std.specs.FinSet as set
use Rattle.std.proofs.lemmas.Bool.Decides.{nat_tests}
use Rattle.std.proofs.lemmas.Map.Lookups.{exact_unsigned}
use Rattle.ack_ranges.specs.Kept.{set_of}
use Rattle.ack_ranges.specs.Ranges.{numbers, spread, from_to, below}

abbrev pub has : ℕ → List ℕ → Bool
has q ks = list_any (λ y. nat_eq y q) ks

pub has-append : (q : ℕ) (xs ys : List ℕ) → has q (xs ++ ys) ≡ (has q xs || has q ys)
has-append q [] ys = refl
has-append q (x ∷ xs) ys = by (nat_eq x q) (has-append q xs ys)
  where
    by : (b : Bool) → has q (xs ++ ys) ≡ (has q xs || has q ys) → (b || has q (xs ++ ys)) ≡ ((b || has q xs) || has q ys)
    by true ih = refl
    by false ih = ih

pub either : (a b : Bool) → (a || b) ≡ true → (a ≡ true) ⊎ (b ≡ true)
either true b h = inl refl
either false b h = inr h

pub or_first : (a b : Bool) → a ≡ true → (a || b) ≡ true
or_first true b h = refl
or_first false b h = cc

pub or_second : (a b : Bool) → b ≡ true → (a || b) ≡ true
or_second true b h = refl
or_second false b h = h

-- in one of the ranges
abbrev pub covers : List (ℕ × ℕ) → ℕ → Bool
covers [] q = false
covers (r ∷ rs) q = (leb r.0 q && ltb q r.1) || covers rs q

pub in_first : (s e q : ℕ) (b : Bool) → s ≤ q → q < e → ((leb s q && ltb q e) || b) ≡ true
in_first s e q b from to = grind (arith, nat_tests)

one_more : (a n q : ℕ) (b : Bool) → b ≡ (leb (suc a) q && ltb q (suc a + n)) → (nat_eq a q || b) ≡ (leb a q && ltb q (a + suc n))
one_more a n q b h = grind (arith, nat_tests)

pub has_numbers_is : (a n q : ℕ) → has q (numbers a n) ≡ (leb a q && ltb q (a + n))
has_numbers_is a zero q = grind (arith, nat_tests)
has_numbers_is a (suc n) q = one_more a n q _ (has_numbers_is (suc a) n q)

end_is : (a b q : ℕ) → (leb a q && ltb q (a + (b - a))) ≡ (leb a q && ltb q b)
end_is a b q = grind (arith, nat_tests)

has_range : (a b q : ℕ) → has q (numbers a (b - a)) ≡ (leb a q && ltb q b)
has_range a b q = has_numbers_is a (b - a) q ∙ end_is a b q

pub has_spread_is : (es : List (ℕ × ℕ)) (q : ℕ) → has q (spread es) ≡ covers es q
has_spread_is [] q = refl
has_spread_is (r ∷ es) q = has-append q (numbers r.0 (r.1 - r.0)) (spread es) ∙ ap (λ b. b || has q (spread es)) (has_range r.0 r.1 q) ∙ ap (λ b. (leb r.0 q && ltb q r.1) || b) (has_spread_is es q)

from_zero : (b q : ℕ) → (leb 0 q && ltb q (0 + b)) ≡ ltb q b
from_zero b q = grind (arith, nat_tests)

pub contains_set_of : (low : ℕ) (es : List (ℕ × ℕ)) (q : ℕ) → set.contains (set_of low es) q ≡ (ltb q low || covers es q)
contains_set_of low es q = set.contains-from_list_nat (numbers 0 low ++ spread es) q ∙ has-append q (numbers 0 low) (spread es) ∙ ap (λ b. b || has q (spread es)) (has_numbers_is 0 low q ∙ from_zero low q) ∙ ap (λ b. ltb q low || b) (has_spread_is es q)

pub contains_spread : (es : List (ℕ × ℕ)) (q : ℕ) → set.contains (set.from_list {R = nat_cmp} (spread es)) q ≡ covers es q
contains_spread es q = set.contains-from_list_nat (spread es) q ∙ has_spread_is es q

pub contains_from_to : (a b q : ℕ) → set.contains (from_to a b) q ≡ (leb a q && ltb q b)
contains_from_to a b q = set.contains-from_list_nat (numbers a (b - a)) q ∙ has_range a b q

pub contains_below : (b q : ℕ) → set.contains (below b) q ≡ ltb q b
contains_below b q = set.contains-from_list_nat (numbers 0 b) q ∙ has_numbers_is 0 b q ∙ from_zero b q

pub same_numbers : (s t : set.FinSet nat_cmp) → ((q : ℕ) → set.contains s q ≡ set.contains t q) → s ≡ t
same_numbers s t is = set.same_set nat_cmp_total exact_unsigned s t is
