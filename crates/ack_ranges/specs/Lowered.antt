-- A set that is kept behind a base: all below the base are in, and each number stands for the one so much lower.
use Rattle.std.specs.Prelude.{◌≡◌, ℕ, ◌+◌, ◌-◌, ◌<◌, ◌≤◌, ◌^◌, true, List, [], ◌∷◌, nat_lt, if◌then◌else◌}
use Rattle.std.specs.Ordering.{nat_cmp}
use Rattle.std.specs.FinSet as set

-- the numbers from n on, each n lower
abbrev pub less_each : ℕ → List ℕ → List ℕ
less_each n [] = []
less_each n (k ∷ ks) = if nat_lt k n then less_each n ks else (k - n) ∷ less_each n ks

-- the numbers of the set from n on, each n lower
unfoldable pub lowered : ℕ → set.FinSet nat_cmp → set.FinSet nat_cmp
lowered n s = set.from_list (less_each n (set.items s))

-- the ranges, each n lower
abbrev pub lower_ranges : ℕ → List (ℕ × ℕ) → List (ℕ × ℕ)
lower_ranges n [] = []
lower_ranges n (r ∷ rs) = (r.0 - n, r.1 - n) ∷ lower_ranges n rs

-- the ranges begin and end less than 2^64 above the base
abbrev pub AreWithin : ℕ → List (ℕ × ℕ) → Type 0
AreWithin base [] = Unit {0}
AreWithin base (r ∷ rs) = (r.0 < base + 2 ^ 64) × (r.1 < base + 2 ^ 64) × AreWithin base rs

-- all below the base are in, all that are in stand less than 2^64 above it, and from 2^64 on no run begins
pub record IsRaised (base : ℕ) (s : set.FinSet nat_cmp) : Type 0 where
  pub below : (k : ℕ) → k < base → set.contains s k ≡ true
  pub within : (k : ℕ) → set.contains s k ≡ true → k + 1 < base + 2 ^ 64
  pub runs : (k : ℕ) → 2 ^ 64 ≤ k + 1 → set.contains s (k + 1) ≡ true → set.contains s k ≡ true
