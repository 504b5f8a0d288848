use Rattle.std.proofs.Common.{arith}
use Rattle.row_rounds.proofs.RoomLemmas.{write_next}
use Rattle.row_rounds.proofs.room.most_in.Goals as goal

pub loop-write-preserved : goal.loop-write-preserved
loop-write-preserved c =
    rw c.max-most.ensures
    (write_next c.args.writes.now c.loop-write.write-index c.loop-write.most c.most_from.result c.write-item.result (omega arith) c.write-item.is (rw c.log.ensures.value at c.most_from.ensures) c.loop-write.invariant)
