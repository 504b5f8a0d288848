-- Seats: which are taken, from seat 1 on.
use Rattle.std.specs.Prelude.{◌≡◌, ℕ, ◌-◌, ◌<◌, ◌==◌, Bool, false, List, Some, set, slice_get, if◌then◌else◌}

-- the seat is there, and nobody has it
abbrev pub IsFree : List Bool → ℕ → Type 0
IsFree taken seat = (0 < seat) × (slice_get taken (seat - 1) ≡ Some false)

-- the seats once nobody has this one, if it is there
abbrev pub without_seat : List Bool → ℕ → List Bool
without_seat taken seat = if seat == 0 then taken else set taken (seat - 1) false
