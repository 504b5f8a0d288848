-- The members of a topic as one value, in the order of joining, and what is done to those of a line of numbers.
use Rattle.std.specs.Prelude.{ℕ, ◌≤◌, ◌^◌, ◌==◌, Bool, List, [], ◌∷◌, ◌++◌, map, if◌then◌else◌}
use Rattle.std.specs.List.{list_any}
use Rattle.std.specs.List.Sorted.{IsStrictlySortedBy}
use Rattle.std.specs.Ordering.{nat_cmp}
use Rattle.delivery_machine.specs.State.{Member}
use Rattle.delivery_machine.specs.Words.{emptied}

-- the next member to join gets the number `next`; there is room for so many without taking memory
pub record Joined : Type 0 where
  pub members : List Member
  pub next : ℕ
  pub room : ℕ

abbrev pub numbers_of : List Member → List ℕ
numbers_of members = map (λ m. m.number) members

-- each number is above those before it, and the next one above them all
pub record AreNumbered (numbers : List ℕ) (next : ℕ) : Type 0 where
  pub rising : IsStrictlySortedBy nat_cmp (numbers ++ next ∷ [])
  pub bounded : next ≤ 2 ^ 63

-- the member's number is in the line
abbrev pub is_in : List ℕ → Member → Bool
is_in line m = list_any (λ n. m.number == n) line

-- the member with nothing left to collect, where its number is in the line
abbrev pub emptied_in : List ℕ → Member → Member
emptied_in line m = if is_in line m then emptied m else m
