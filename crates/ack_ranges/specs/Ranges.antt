-- Sets of numbers, and ranges: a range goes from its first number up to its end, the one after its last.
use Rattle.std.specs.Prelude.{◌≡◌, ℕ, zero, suc, ◌+◌, ◌-◌, ◌<◌, ◌≤◌, false, true, List, [], ◌∷◌, ◌++◌}
use Rattle.std.specs.Ordering.{nat_cmp}
use Rattle.std.specs.FinSet as set

-- n numbers from a on
abbrev pub numbers : ℕ → ℕ → List ℕ
numbers a zero = []
numbers a (suc n) = a ∷ numbers (suc a) n

-- the numbers from a up to the end b
abbrev pub from_to : ℕ → ℕ → set.FinSet nat_cmp
from_to a b = set.from_list (numbers a (b - a))

-- the numbers below b
abbrev pub below : ℕ → set.FinSet nat_cmp
below b = set.from_list (numbers 0 b)

-- the numbers of all ranges
abbrev pub spread : List (ℕ × ℕ) → List ℕ
spread [] = []
spread (r ∷ rs) = numbers r.0 (r.1 - r.0) ++ spread rs

-- the ranges rise above a, none is empty, and before each stands a number that is in none
abbrev pub RiseAbove : ℕ → List (ℕ × ℕ) → Type 0
RiseAbove a [] = Unit {0}
RiseAbove a (r ∷ rs) = (a < r.0) × (r.0 < r.1) × RiseAbove r.1 rs

-- the ranges rise, none is empty, and between two stands a number that is in none
abbrev pub Rise : List (ℕ × ℕ) → Type 0
Rise [] = Unit {0}
Rise (r ∷ rs) = (r.0 < r.1) × RiseAbove r.1 rs

-- the ranges of a set: as few as have its numbers, in order
pub record AreRangesOf (s : set.FinSet nat_cmp) (rs : List (ℕ × ℕ)) : Type 0 where
  pub numbers : s ≡ set.from_list (spread rs)
  pub rise : Rise rs

-- q is the least number from a on that is not in the set
pub record IsNextMissing (s : set.FinSet nat_cmp) (a q : ℕ) : Type 0 where
  pub from : a ≤ q
  pub missing : set.contains s q ≡ false
  pub before : (k : ℕ) → a ≤ k → k < q → set.contains s k ≡ true

-- q is not 0, and the number before it is not in the set
abbrev pub HasGapBefore : set.FinSet nat_cmp → ℕ → Type 0
HasGapBefore s q = (p : ℕ) × (p + 1 ≡ q) × (set.contains s p ≡ false)

-- a range that may come after all of the set: it is not empty, and a number stands between
pub record MayFollow (s : set.FinSet nat_cmp) (start end : ℕ) : Type 0 where
  pub some : start < end
  pub apart : (k : ℕ) → set.contains s k ≡ true → k + 1 < start
