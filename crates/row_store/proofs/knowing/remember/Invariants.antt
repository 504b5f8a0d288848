use Rattle.std.proofs.Common.{◌≡◌, ◌≤◌, ◌+◌, ◌++◌, All, length, map}
use Rattle.std.specs.Prelude.{reverse, vec_capacity}
use Rattle.stored_cell.specs.Noted.{Noted}
use Rattle.row_rounds.specs.declared.saving.Write.{Write}
use Rattle.row_rounds.specs.Rounds.{IsNamed}
use Rattle.row_store.proofs.knowing.remember.Given as goal

abbrev pub invariant-loop-write : goal.invariant-loop-write
invariant-loop-write g l = record {
  named : All IsNamed l.writes.items;
  marked : map (λ (n : Noted). n.kept) l.marks.items ≡ map (λ (w : Write). w.snapshot) l.writes.items;
  room : length l.known.items + length l.writes.items ≤ vec_capacity l.known;
  whole : l.known.items ++ reverse (map (λ (w : Write). w.snapshot) l.writes.items) ≡ l.fn.known.items ++ reverse (map (λ (w : Write). w.snapshot) l.fn.writes.items);
}

abbrev pub decreases-loop-write : goal.decreases-loop-write
decreases-loop-write g l = length l.writes.items
