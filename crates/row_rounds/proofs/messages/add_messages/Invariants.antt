use Rattle.std.proofs.Common.{◌≡◌, ◌+◌, ◌-◌, ◌≤◌, drop, take}
use Rattle.log_pieces.specs.Pieces.{joined}
use Rattle.sqlite.specs.State.{HasCleanDisk, Survives}
use Rattle.sqlite.specs.Held.{state}
use Rattle.row_forms.specs.Cells.{ENTRY}
use Rattle.row_forms.specs.Forms.{entry_rows}
use Rattle.row_tables.specs.Goes.{Goes, Adds}
use Rattle.row_rounds.proofs.messages.add_messages.Given as goal

abbrev pub invariant-loop-index : goal.invariant-loop-index
invariant-loop-index g l = record {
  same : l.tx.conn.ghost_name ≡ l.fn.tx.conn.ghost_name;
  kept : Survives (state g.S.Store l.fn.tx.conn.now) (state g.S.Store l.tx.conn.now) (λ _. ⊥);
  after : l.from ≤ l.index;
  done : HasCleanDisk (state g.S.Store l.tx.conn.now) → Goes (Adds ENTRY (entry_rows l.topic (l.gone + l.from) (take (l.index - l.from) (drop l.from (joined l.log))))) (state g.S.Store l.fn.tx.conn.now) (state g.S.Store l.tx.conn.now);
}
