-- Numbers of a list by their ranks.
use Rattle.std.specs.Prelude.{◌≡◌, ◌==◌, ℕ, zero, suc, ◌<◌, ◌≤◌, true, List, [], ◌∷◌, length, slice_index, if◌then◌else◌}
use Rattle.std.specs.Ordering.{nat_cmp}
use Rattle.std.specs.FinSet as set

-- how many stand before the number; all, where it is not there
abbrev pub rank_of : List ℕ → ℕ → ℕ
rank_of [] i = zero
rank_of (p ∷ ps) i = if p == i then zero else suc (rank_of ps i)

abbrev pub Rises : List ℕ → Type 0
Rises xs = (j k : ℕ) → j < k → k < length xs → slice_index xs j < slice_index xs k

-- each rank of the set is one of the list
abbrev pub AreRanksOf : List ℕ → set.FinSet nat_cmp → Type 0
AreRanksOf xs ranks = (r : ℕ) → set.contains ranks r ≡ true → r < length xs

-- the first k numbers are those below the base
pub record IsStart (xs : List ℕ) (base k : ℕ) : Type 0 where
  pub within : k ≤ length xs
  pub before : (r : ℕ) → r < k → slice_index xs r < base
  pub behind : (r : ℕ) → k ≤ r → r < length xs → base ≤ slice_index xs r
