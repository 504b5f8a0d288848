-- Members in turn, and the best level among members.
use Rattle.std.specs.Prelude.{◌≡◌, ℕ, ◌==◌, ◌≤◌, nat_lt, Bool, ◌&&◌, ◌||◌, List, [], Option, Some, None, if◌then◌else◌}
use Rattle.std.specs.List.{All, Contains}
use Rattle.std.specs.Option.{option_map_or}
use Rattle.delivery_machine.specs.State.{Member}
use Rattle.dispatch_core.specs.Turn.{is_sooner}

-- one of the best level, or none where there are none
abbrev pub IsBestLevel : List Member → Option Member → Type 0
IsBestLevel members None = members ≡ []
IsBestLevel members (Some m) = Contains members m × All (λ other. m.level ≤ other.level) members

abbrev pub goes_first : ℕ → Member → Member → Bool
goes_first last m other = nat_lt m.level other.level || (m.level == other.level && is_sooner last m.number other.number)

-- of the one so far and the next, the one that goes first
abbrev pub in_turn : ℕ → Option Member → Member → Member
in_turn last best m = option_map_or (λ b. if goes_first last m b then m else b) best m
