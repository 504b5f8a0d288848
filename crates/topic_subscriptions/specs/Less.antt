-- One set of places less another, range by range.
use Rattle.std.specs.Prelude.{◌≡◌, ℕ, ◌+◌, ◌<◌, ◌≤◌, true, false, not, ◌&&◌, ◌||◌, nat_le, nat_lt, List, [], ◌∷◌, Option, Some, None}
use Rattle.std.specs.Ordering.{nat_cmp}
use Rattle.std.specs.FinSet as set

-- each place of the set ends before the start, and one more stands between
abbrev pub EndBefore : set.FinSet nat_cmp → ℕ → Type 0
EndBefore s start = (k : ℕ) → set.contains s k ≡ true → k + 1 < start

-- the places from start up to the end came to the set, but for the owed ones
abbrev pub AreAdded : set.FinSet nat_cmp → set.FinSet nat_cmp → ℕ → ℕ → set.FinSet nat_cmp → Type 0
AreAdded old owed start end new = (k : ℕ) → set.contains new k ≡ (set.contains old k || ((nat_le start k && nat_lt k end) && not (set.contains owed k)))

-- the end, or an owed place before it, and no owed place stands between
pub record IsNextOwed (owed : set.FinSet nat_cmp) (from end next : ℕ) : Type 0 where
  pub after : from ≤ next
  pub within : next ≤ end
  pub owed_there : next < end → set.contains owed next ≡ true
  pub none : (k : ℕ) → from ≤ k → k < next → set.contains owed k ≡ false

-- the first range was taken, or there was none
abbrev pub IsFirstRange : Option (ℕ × ℕ) → List (ℕ × ℕ) → List (ℕ × ℕ) → Type 0
IsFirstRange None old new = old ≡ []
IsFirstRange (Some r) old new = old ≡ r ∷ new
