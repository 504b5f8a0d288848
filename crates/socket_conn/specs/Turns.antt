-- What a stream gives in one turn of its connection.
use Rattle.std.specs.Prelude.{◌≡◌, ◌≤◌, ◌+◌, ◌-◌, ◌^◌, ◌%◌, ◌==◌, ◌&&◌, ◌||◌, nat_lt, min, length, if◌then◌else◌, take, ℕ, Bool, true, false, List, Result, Ok, Err}
use Rattle.std.specs.IoError.{error_kind}
use Rattle.std.specs.declared.io.Error.{Error}
use Rattle.std.specs.declared.io.ErrorKind.TheVariants.{WouldBlock}
use Rattle.socket_conn.specs.Frames.{walked}
use Rattle.socket_conn.specs.Traffic.{more_received}
use Rattle.socket_conn.specs.Waits.{with_wait}
use Rattle.socket_conn.specs.declared.held.Held.{Held}

-- how many bytes a turn reads at most
abbrev pub most_a_turn : ℕ
most_a_turn = 262144

module _ {S : Type 0} where
  -- a turn begins: as many bytes are left in it as in any other, and the stream below is asked anew
  abbrev pub begun_turn : Held S → Held S
  begun_turn d = record d { left = most_a_turn; is_drained = false }

  -- there may be something to give; and whether all that comes from now on, the end too, is told of
  abbrev pub told : Bool → Held S → Held S
  told is_told d = record d { is_told = is_told; is_drained = false }

  -- it gives nothing more in this turn: the turn has no bytes left, or all that had come was given
  abbrev pub gives_nothing : Held S → Bool
  gives_nothing d = d.left == 0 || d.is_drained

  -- which of the two it is, is counted
  abbrev pub after_nothing : Held S → Held S
  after_nothing d =
      if d.left == 0 then record d { spent = (d.spent + 1) % 2 ^ 64 }
      else if d.is_drained then record d { dry = (d.dry + 1) % 2 ^ 64 } else d

  -- a read gave so many bytes, some but fewer than were asked for, and what comes later is told of: so all that had come was given
  abbrev pub drains : Held S → (asked given : ℕ) → Bool
  drains d asked given = d.is_told && nat_lt 0 given && nat_lt given asked

  -- after these bytes were given, where so many were asked for: the turn has fewer left by them, and they and their frames are counted
  abbrev pub after_given : Held S → (asked : ℕ) → (bytes : List ℕ) → Held S
  after_given d asked bytes =
      record d {
        left = d.left - length bytes;
        is_drained = drains d asked (length bytes);
        frames = walked d.frames bytes;
        traffic = more_received (length bytes) d.traffic;
      }

  -- what a read gives in a turn: no more bytes than it has left, and where it gives nothing more, it would block
  abbrev pub IsInTurn : Held S → Result ℕ Error → Type 0
  IsInTurn d (Ok n) = (gives_nothing d ≡ false) × (n ≤ d.left)
  IsInTurn d (Err e) = gives_nothing d ≡ true → error_kind e ≡ WouldBlock

  -- a stream after a read into this buffer that gave this, where the one below it is now `inner`: that one was asked for no more bytes
  -- than the turn has left. That it had nothing to give is counted. Where the turn gives nothing more, it was not asked, and that alone
  -- is counted
  abbrev pub after_read : Held S → (inner : S) → Result ℕ Error → (buf : List ℕ) → Held S
  after_read d inner (Ok n) buf = after_given (record d { inner = inner }) (min d.left (length buf)) (take n buf)
  after_read d inner (Err e) buf =
      if gives_nothing d then after_nothing d else record d { inner = inner; dry = with_wait d.dry (error_kind e) }
