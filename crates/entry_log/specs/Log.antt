-- A topic's log, and what its calls do, in the words of the delivery machine.
use Rattle.std.specs.Prelude.{◌≡◌, ℕ, ◌+◌, ◌^◌, nat_le, nat_lt, min, Bool, ◌||◌, List, [], ◌∷◌, ◌++◌, drop, length, Option, Some, None, if◌then◌else◌}
use Rattle.std.specs.Option.{option_map_or}
use Rattle.position_core.specs.declared.position.Position.{Position}
use Rattle.position_core.specs.declared.message.Entry.{Entry}
use Rattle.delivery_machine.specs.State.{State}
use Rattle.delivery_machine.specs.Words.{used_after}
use Rattle.log_pieces.specs.Pieces.{front}

-- messages go into `ledger` until that is full; `undo` is what it was before the last message, where that may be taken back
pub record Log : Type 0 where
  pub log : List Entry
  pub ledger : ℕ
  pub ledger_size : ℕ
  pub undo : Option ℕ

-- the log is the state's
abbrev pub IsLogOf : Log → State → Type 0
IsLogOf q s = (s.log ≡ q.log) × (s.ledger ≡ q.ledger) × (s.ledger_size ≡ q.ledger_size)

abbrev pub empty_log : ℕ → Log
empty_log ledger_size = record { log = []; ledger = 0; ledger_size = ledger_size; undo = None }

-- the position after so many entries of a ledger
abbrev pub position_after : ℕ → ℕ → ℕ → Position
position_after ledger used ledger_size =
    if nat_lt used ledger_size then record { ledger = ledger; entry = used } else record { ledger = ledger + 1; entry = 0 }

abbrev pub next_in : Log → Position
next_in q = position_after q.ledger (used_after q.ledger q.log) q.ledger_size

-- the log has all messages that it may have, or the next message's ledger would pass 2^62
abbrev pub is_full_log : Log → Bool
is_full_log q = nat_le 1048576 (length q.log) || nat_lt (2 ^ 62) (next_in q).ledger

abbrev pub appended : Entry → Log → Log
appended e q = record q { log = q.log ++ e ∷ []; ledger = e.position.ledger; undo = Some q.ledger }

-- the last message is taken back, where it may be
abbrev pub popped : Log → Log
popped q = option_map_or (λ ledger. record q { log = front q.log; ledger = ledger; undo = None }) q.undo q

-- messages go into the next ledger; 2^62 + 1 is the last
abbrev pub rolled : Log → Log
rolled q = record q { ledger = min (q.ledger + 1) (2 ^ 62 + 1); undo = None }

-- the first messages go, so many; what the last message did cannot be taken back any more
abbrev pub without_first : ℕ → Log → Log
without_first count q = record q { log = drop count q.log; undo = None }
