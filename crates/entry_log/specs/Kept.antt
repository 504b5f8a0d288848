-- What a log keeps of its messages, so that the next position and the index of a position need no look at all of them.
use Rattle.std.specs.Prelude.{◌≡◌, ℕ, ◌+◌, ◌≤◌, ◌<◌, ◌^◌, ◌==◌, nat_lt, Bool, true, ◌&&◌, ◌||◌, List, map, length, Option, Some, None, ⊤, All}
use Rattle.std.specs.List.Sorted.{IsStrictlySortedBy}
use Rattle.position_core.specs.declared.position.Position.{Position}
use Rattle.position_core.specs.declared.message.Entry.{Entry}
use Rattle.position_core.specs.Position.{position_cmp}
use Rattle.delivery_machine.specs.Words.{used_after}
use Rattle.log_pieces.specs.Pieces.{Parts, joined, front}
use Rattle.entry_log.specs.declared.open_ledger.OpenLedger.{OpenLedger}

-- the position is in an earlier ledger, or among the first entries of this one
abbrev pub is_before : ℕ → ℕ → Position → Bool
is_before ledger used p = nat_lt p.ledger ledger || (p.ledger == ledger && nat_lt p.entry used)

-- positions rise, all before the entry `used` of the ledger, which comes after the last message
pub record IsAt (log : List Entry) (ledger used : ℕ) : Type 0 where
  pub rising : IsStrictlySortedBy position_cmp (map (λ e. e.position) log)
  pub before : All (λ e. is_before ledger used e.position ≡ true) log
  pub counted : used ≡ used_after ledger log
  pub bounded : ledger ≤ 2 ^ 62 + 1

-- without its last message the log has the ledger that was open
abbrev pub WasAt : Parts → Option OpenLedger → Type 0
WasAt p None = ⊤
WasAt p (Some was) = (0 < length p.loose.last) × IsAt (front (joined p)) was.ledger was.used

-- a log has at most 1,048,576 messages
abbrev pub IsKept : Parts → OpenLedger → Option OpenLedger → Type 0
IsKept p current undo = IsAt (joined p) current.ledger current.used × WasAt p undo × (length (joined p) ≤ 1048576)
