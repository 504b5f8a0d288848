-- How long a client may be silent.
use Rattle.std.specs.Prelude.{ℕ, ◌-◌, nat_le, nat_lt, Option, Some, None, if◌then◌else◌}
use Rattle.worker_loops.specs.declared.silence.Patience.{Patience}
use Rattle.worker_loops.specs.declared.silence.Silence.{Silence}
use Rattle.worker_loops.specs.declared.silence.Silence.TheVariants.{Fine, Ping, End}

-- one that was not pinged since it was heard is pinged, and one that was is ended, once it was silent for so long since
abbrev pub silence_of : Patience → ℕ → ℕ → Option ℕ → Silence
silence_of patience now heard None = if nat_le patience.ping (now - heard) then Ping else Fine
silence_of patience now heard (Some pinged) = if nat_le patience.end (now - pinged) then End else Fine

-- how far apart two looks at a client may be, in milliseconds, before its worker is held to have stood still
abbrev pub most_apart : ℕ
most_apart = 12000

-- since when an answer to the ping is awaited: anew from now where the worker stood still, for it may have come unread
abbrev pub awaited_since : ℕ → ℕ → Option ℕ → Option ℕ
awaited_since looked now None = None
awaited_since looked now (Some pinged) = if nat_lt most_apart (now - looked) then Some now else Some pinged
