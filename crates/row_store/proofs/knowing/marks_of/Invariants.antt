use Rattle.std.proofs.Common.{◌≡◌, ◌≤◌, map, take, length, vec_capacity}
use Rattle.stored_cell.specs.Noted.{Noted}
use Rattle.row_store.specs.Keeping.{kepts}
use Rattle.row_store.proofs.knowing.marks_of.Given as goal

abbrev pub invariant-loop-part : goal.invariant-loop-part
invariant-loop-part g l = record {
  marks : map (λ (n : Noted). n.kept) l.marks.items ≡ kepts (take l.part-index l.parts);
  room : length l.parts ≤ vec_capacity l.marks;
}
