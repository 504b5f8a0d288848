use Rattle.std.proofs.Common.{◌≡◌, ◌+◌, length}
use Rattle.sqlite.specs.State.{HasCleanDisk, Survives}
use Rattle.sqlite.specs.Held.{state}
use Rattle.row_forms.specs.Cells.{ACK}
use Rattle.row_forms.specs.Changes.{ack_cells}
use Rattle.row_tables.specs.Goes.{Goes}
use Rattle.row_rounds.proofs.GoesLemmas.{Leaves}
use Rattle.row_rounds.proofs.runs.write.Given as goal

abbrev pub invariant-sides : goal.invariant-sides
invariant-sides g l = record {
  same : l.tx.conn.ghost_name ≡ l.fn.tx.conn.ghost_name;
  kept : Survives (state g.S.Store l.fn.tx.conn.now) (state g.S.Store l.tx.conn.now) (λ _. ⊥);
  done : HasCleanDisk (state g.S.Store l.tx.conn.now) → Goes (Leaves ACK (ack_cells l.topic) l.rows.gone.items l.rows.news.items l.walk.olds.now l.walk.news.now) (state g.S.Store l.fn.tx.conn.now) (state g.S.Store l.tx.conn.now);
}

abbrev pub decreases-sides : goal.decreases-sides
decreases-sides g l = length l.walk.olds.now + length l.walk.news.now
