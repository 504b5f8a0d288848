-- How a set is kept: the numbers below low, and ranges above it.
use Rattle.std.specs.Prelude.{◌≡◌, ℕ, zero, suc, ◌+◌, ◌-◌, ◌<◌, ◌≤◌, ◌^◌, max, Bool, true, not, cond, List, [], ◌∷◌, ◌++◌}
use Rattle.std.specs.Ordering.{nat_cmp}
use Rattle.std.specs.FinSet as set
use Rattle.ack_ranges.specs.Ranges.{numbers, spread, from_to, Rise, RiseAbove}

-- q is above all numbers of the set, and the least such number
pub record IsEndOf (s : set.FinSet nat_cmp) (q : ℕ) : Type 0 where
  pub above : (k : ℕ) → set.contains s k ≡ true → k < q
  pub least : (k : ℕ) → k + 1 ≡ q → set.contains s k ≡ true

-- the numbers below low and those of the ranges
abbrev pub set_of : ℕ → List (ℕ × ℕ) → set.FinSet nat_cmp
set_of low es = set.from_list {R = nat_cmp} (numbers 0 low ++ spread es)

-- how many numbers the ranges have
abbrev pub total : List (ℕ × ℕ) → ℕ
total [] = 0
total (r ∷ rs) = (r.1 - r.0) + total rs

-- how many numbers from a on the ranges have
abbrev pub total_from : ℕ → List (ℕ × ℕ) → ℕ
total_from a [] = 0
total_from a (r ∷ rs) = (r.1 - max r.0 a) + total_from a rs

-- the ends are numbers of 64 bits
abbrev pub AreSmall : List (ℕ × ℕ) → Type 0
AreSmall [] = Unit {0}
AreSmall (r ∷ rs) = (r.1 < 2 ^ 128) × AreSmall rs

-- the numbers below low and the ranges above it are count numbers
pub record IsKept (low : ℕ) (es : List (ℕ × ℕ)) (count : ℕ) : Type 0 where
  pub rise : RiseAbove low es
  pub low_small : low < 2 ^ 128
  pub small : AreSmall es
  pub counted : count ≡ low + total es

-- all ranges: the numbers below low are the first
abbrev pub with_low : ℕ → List (ℕ × ℕ) → List (ℕ × ℕ)
with_low zero es = es
with_low (suc n) es = (0, suc n) ∷ es

-- the first range begins after a
abbrev pub BeginAfter : ℕ → List (ℕ × ℕ) → Type 0
BeginAfter a [] = Unit {0}
BeginAfter a (r ∷ rs) = a < r.0

-- the run up to end takes in the first of the ranges es, count numbers: then it goes up to `to`, and the ranges fs are left
pub record Swallows (es : List (ℕ × ℕ)) (end : ℕ) (fs : List (ℕ × ℕ)) (to count : ℕ) : Type 0 where
  pub same : set_of to fs ≡ set_of end es
  pub counted : count + total fs ≡ total es
  pub from : end ≤ to
  pub to_small : to < 2 ^ 128
  pub rise : Rise fs
  pub small : AreSmall fs

-- the numbers from start up to end came behind those below low and those of es: now it is those below up and those of fs
pub record Follows (low : ℕ) (es : List (ℕ × ℕ)) (start end up : ℕ) (fs : List (ℕ × ℕ)) : Type 0 where
  pub same : set_of up fs ≡ set.union (set_of low es) (from_to start end)
  pub counted : up + total fs ≡ low + total es + (end - start)
  pub rise : RiseAbove up fs
  pub up_small : up < 2 ^ 128
  pub small : AreSmall fs

-- q came to the numbers below low and those of es, which are now those below up and those of fs: it was not there before, or nothing changed
pub record Adds (low : ℕ) (es : List (ℕ × ℕ)) (q up : ℕ) (fs : List (ℕ × ℕ)) (new : Bool) : Type 0 where
  pub was : set.contains (set_of low es) q ≡ not new
  pub same : set_of up fs ≡ set.insert (set_of low es) q
  pub counted : up + total fs ≡ low + total es + cond new 1 0
  pub rise : RiseAbove up fs
  pub up_small : up < 2 ^ 128
  pub small : AreSmall fs
