use Rattle.std.proofs.Common.{arith}
use Rattle.log_pieces.specs.Pieces.{joined}
use Rattle.row_rounds.proofs.RoomLemmas.{room_next, room_ends}
use Rattle.row_rounds.proofs.room.most_from.Goals as goal

pub loop-place-preserved : goal.loop-place-preserved
loop-place-preserved c = record {
  after = omega (arith, c.loop-place.invariant.after);
  room = rw c.max-most.ensures (room_next (joined c.args.log.now) c.args.from c.loop-place.place c.loop-place.most c.room_at.result c.loop-place.invariant.after (omega (arith, c.count-place-end.ensures)) c.room_at.ensures c.loop-place.invariant.room);
}

pub returns : goal.returns
returns c = room_ends (joined c.args.log.now) c.args.from c.loop-place.place c.loop-place.most (omega (arith, c.count-place-end.ensures)) c.loop-place.invariant.room
