use Rattle.std.proofs.Common.{All, take}
use Rattle.row_rounds.proofs.RoomLemmas.{WriteHasRoom}
use Rattle.row_rounds.proofs.room.most_in.Given as goal

abbrev pub invariant-loop-write : goal.invariant-loop-write
invariant-loop-write l = All (WriteHasRoom l.most) (take l.write-index l.writes)
