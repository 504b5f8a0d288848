-- When a copy of the database may be made.
use Rattle.std.specs.Prelude.{Bool, ℕ, ◌+◌, ◌&&◌, nat_le, nat_lt}

-- it is less than a minute since one was begun, where one was
abbrev pub is_early : (begun now : ℕ) → Bool
is_early begun now = nat_lt 0 begun && (nat_le begun now && nat_lt now (begun + 60000))
