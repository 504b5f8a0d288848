-- Whose turn it is.
use Rattle.std.specs.Prelude.{ℕ, nat_lt, nat_le, Bool, ◌&&◌, ◌||◌, if◌then◌else◌}

-- the least number above the one last served comes first, and then the least
abbrev pub is_sooner : ℕ → ℕ → ℕ → Bool
is_sooner last number other =
    if nat_lt last number then nat_le other last || nat_lt number other else nat_le other last && nat_lt number other
