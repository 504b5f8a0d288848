-- Ranges of hashes, as a consumer asks for them. Hashes are 0 to 65,535.
use Rattle.std.specs.Prelude.{ℕ, ◌+◌, ◌≤◌, ◌<◌, nat_le, Bool, ◌&&◌, List, [], ◌∷◌, length}
use Rattle.std.specs.List.{list_any, count_by, All}
use Rattle.position_core.specs.declared.ranges.HashRange.{HashRange}

abbrev pub in_range : ℕ → HashRange → Bool
in_range hash r = nat_le r.first hash && nat_le hash r.last

-- the hash is in one of the ranges
abbrev pub have_hash : List HashRange → ℕ → Bool
have_hash ranges hash = list_any (in_range hash) ranges

-- the range begins at the hash or behind it
abbrev pub IsRangeFrom : ℕ → HashRange → Type 0
IsRangeFrom from r = (from ≤ r.first) × (r.first ≤ r.last) × (r.last < 65536)

-- the ranges stand in the order of their hashes, from `from` on, each behind the one before it
abbrev pub Rise : ℕ → List HashRange → Type 0
Rise from [] = from ≤ 65536
Rise from (r ∷ rs) = (from ≤ r.first) × (r.first ≤ r.last) × Rise (r.last + 1) rs

-- 1 to 64 ranges in their order, no hash in two of them
pub record AreRanges (ranges : List HashRange) : Type 0 where
  pub some : 0 < length ranges
  pub few : length ranges ≤ 64
  pub rise : Rise 0 ranges

-- so they may be, in whatever order they are given
pub record MayBeRanges (given : List HashRange) : Type 0 where
  pub some : 0 < length given
  pub few : length given ≤ 64
  pub each : All (λ r. (r.first ≤ r.last) × (r.last < 65536)) given
  pub once : (hash : ℕ) → count_by (in_range hash) given ≤ 1
