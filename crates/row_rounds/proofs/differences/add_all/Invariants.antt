use Rattle.std.proofs.Common.{◌≡◌, map, take}
use Rattle.sqlite.specs.State.{HasCleanDisk, Survives}
use Rattle.sqlite.specs.Held.{state}
use Rattle.row_tables.specs.Goes.{Goes, Adds}
use Rattle.row_rounds.proofs.differences.add_all.Given as goal

abbrev pub invariant-loop-row : goal.invariant-loop-row
invariant-loop-row g l = record {
  same : l.tx.conn.ghost_name ≡ l.fn.tx.conn.ghost_name;
  kept : Survives (state g.S.Store l.fn.tx.conn.now) (state g.S.Store l.tx.conn.now) (λ _. ⊥);
  done : HasCleanDisk (state g.S.Store l.tx.conn.now) → Goes (Adds g.R.Listed.tree (map (g.R.Listed.cells l.topic) (take l.row-index l.rows))) (state g.S.Store l.fn.tx.conn.now) (state g.S.Store l.tx.conn.now);
}
