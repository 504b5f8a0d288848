use Rattle.std.proofs.Common.{◌≡◌, take}
use Rattle.row_store.specs.Counting.{written_by}
use Rattle.row_store.proofs.written.Written.by.Given as goal

abbrev pub invariant-loop-write : goal.invariant-loop-write
invariant-loop-write l = l.written ≡ written_by (take l.write-index l.writes)
