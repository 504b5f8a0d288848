-- Which bytes a JSON string does not hold as themselves.
use Rattle.std.specs.Prelude.{ℕ, Bool, ◌||◌, ◌==◌, nat_lt}

-- the control characters, the quote and the backslash
abbrev pub needs_escape : ℕ → Bool
needs_escape byte = nat_lt byte 32 || byte == 34 || byte == 92
