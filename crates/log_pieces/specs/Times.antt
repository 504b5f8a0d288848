-- From when on all messages of a list are earlier.
use Rattle.std.specs.Prelude.{ℕ, ◌+◌, nat_le, max, Bool, List}
use Rattle.std.specs.List.{fold}
use Rattle.position_core.specs.declared.message.Entry.{Entry}

-- the message is not earlier than the time
abbrev pub is_from : ℕ → Entry → Bool
is_from time e = nat_le time e.time

-- the first moment after the times of all messages, which is not before the given one
abbrev pub moment_after : ℕ → List Entry → ℕ
moment_after from log = fold (λ moment e. max moment (e.time + 1)) from log
