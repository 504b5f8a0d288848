-- How many bytes came from a client and went to it. A count stays where it is once it is as great as it may be.
use Rattle.std.specs.Prelude.{◌+◌, ◌-◌, ◌^◌, min, ℕ, Result, Ok, Err}
use Rattle.std.specs.declared.io.Error.{Error}
use Rattle.socket_conn.specs.declared.held.Held.{Held}
use Rattle.socket_conn.specs.declared.traffic.Traffic.{Traffic}

-- nothing came or went
abbrev pub no_traffic : Traffic
no_traffic = record { received = 0; sent = 0 }

-- so many bytes more came
abbrev pub more_received : ℕ → Traffic → Traffic
more_received count t = record t { received = min (t.received + count) (2 ^ 64 - 1) }

-- so many bytes more went
abbrev pub more_sent : ℕ → Traffic → Traffic
more_sent count t = record t { sent = min (t.sent + count) (2 ^ 64 - 1) }

-- after a write that gave this: what the stream took has gone, and nothing where it failed
abbrev pub after_write : Result ℕ Error → Traffic → Traffic
after_write (Ok count) t = more_sent count t
after_write (Err error) t = t

module _ {S : Type 0} where
  -- a stream that has handed on its first bytes up to `at`, where the one below it is now `inner`: those that went meanwhile are counted
  abbrev pub sent_up_to : (at : ℕ) → (inner : S) → Held S → Held S
  sent_up_to at inner d = record d { inner = inner; at = at; traffic = more_sent (at - d.at) d.traffic }

  -- the same after a write that gave this
  abbrev pub written : Result ℕ Error → Held S → Held S
  written result d = record d { traffic = after_write result d.traffic }

-- what came and went since it was this
abbrev pub since : (old new : Traffic) → Traffic
since old new = record { received = new.received - old.received; sent = new.sent - old.sent }
