use Rattle.std.proofs.Common.{◌≡◌, ◌≤◌, map, take, length, vec_capacity}
use Rattle.stored_cell.specs.Noted.{Noted}
use Rattle.row_store.proofs.knowing.keep_all.Given as goal

abbrev pub invariant-loop-mark : goal.invariant-loop-mark
invariant-loop-mark g l = record {
  kept : l.kept.items ≡ map (λ (n : Noted). record { kept = n.kept; rows = l.rows.rows; clean = l.rows.clean }) (take l.mark-index l.marks);
  room : length l.marks ≤ vec_capacity l.kept;
}
