use Rattle.std.proofs.Common.{◌≡◌, take}
use Rattle.sqlite.specs.State.{HasCleanDisk, Survives}
use Rattle.sqlite.specs.Held.{state}
use Rattle.row_tables.specs.Goes.{Goes}
use Rattle.row_rounds.specs.Rounds.{Rounds}
use Rattle.row_rounds.proofs.saving.write_all.Given as goal

abbrev pub invariant-loop-write : goal.invariant-loop-write
invariant-loop-write g l = record {
  same : l.tx.conn.ghost_name ≡ l.fn.tx.conn.ghost_name;
  kept : Survives (state g.S.Store l.fn.tx.conn.now) (state g.S.Store l.tx.conn.now) (λ _. ⊥);
  done : HasCleanDisk (state g.S.Store l.tx.conn.now) → Goes (Rounds (take l.write-index l.writes)) (state g.S.Store l.fn.tx.conn.now) (state g.S.Store l.tx.conn.now);
}
