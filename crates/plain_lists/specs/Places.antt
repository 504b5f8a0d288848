-- Sets of positions, and the places in a log at which they stand.
use Rattle.std.specs.Prelude.{◌≡◌, ℕ, false, Bool, List, slice_get}
use Rattle.std.specs.Option.{option_map_or}
use Rattle.std.specs.Ordering.{nat_cmp}
use Rattle.std.specs.FinSet as set
use Rattle.position_core.specs.declared.message.Entry.{Entry}
use Rattle.position_core.specs.Position.{position_cmp}

-- the message at the place, if there is one, is of the set
abbrev pub is_place_of : List Entry → set.FinSet position_cmp → ℕ → Bool
is_place_of log positions place = option_map_or (λ e. set.contains positions e.position) (slice_get log place) false

-- the places of the messages of the set
abbrev pub ArePlacesOf : List Entry → set.FinSet position_cmp → set.FinSet nat_cmp → Type 0
ArePlacesOf log positions places = (place : ℕ) → set.contains places place ≡ is_place_of log positions place
