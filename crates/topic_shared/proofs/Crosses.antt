-- Values that may go to another thread.
use denote.RattleType.{RattleType}
use denote.Param.Send.{IsSend, IsSync, sendable, view_send}
use denote.Param.SendFields.{as_row_send, as_row_sync, declared_send, declared_sync}
use Rattle.std.proofs.Crossing.{crosses}
use Rattle.delivery_machine.specs.declared.topic.Topic as topic
use Rattle.std.specs.declared.sync.ledger.Ledger as ledger
use Rattle.topic_shared.proofs.line.Line.TheSendSync.{the_send as line_send}
use Rattle.topic_shared.proofs.seat.Spare.TheSendSync.{the_send as spare_send}
use Rattle.std.proofs.sync.ledger.Share.TheSendSync.{the_send as share_send}
use Rattle.std.proofs.sync.ledger.Book.TheSendSync.{the_send as book_send}
use Rattle.topic_shared.specs.declared.seat.Opening as opening
use Rattle.std.specs.contracts.vec.Vec as Vec
use Rattle.std.specs.contracts.sync.Mutex as Mutex
use Rattle.std.specs.contracts.alloc.Global as Global
use Rattle.std.specs.contracts.impls.GlobalAllocator.TheImpl.{ghosts}
use Rattle.topic_shared.specs.contracts.seat.Spare as Spare
use Rattle.topic_shared.specs.contracts.cell.Cell as Cell
use Rattle.topic_shared.specs.contracts.inside.Inside as Inside
use Rattle.topic_shared.specs.contracts.inside.Inside.TheInside as InsideFields
use Rattle.topic_shared.specs.contracts.shared.SharedTopic as Shared

pub Cell-send : (T : RattleType) (g : topic.Ghosts T.Denot) → IsSend T → IsSend (Cell.the_row T g)
Cell-send T g s = search (sendable, crosses, line_send) depth 20

pub Inside-send : (T L : RattleType) (g : topic.Ghosts T.Denot) (o : opening.Ghosts L.Denot) (l : ledger.Ghosts L.Denot) → IsSend T → IsSend (Inside.the_row T L g o l)
Inside-send T L g o l s = let c = Cell-send T g s in view_send _ _ _ _ _ (declared_send (InsideFields.the_type T L g o l) (c, (book_send L l, (as_row_send (Vec.the_field Spare.the_row Global.the_row ghosts) (search (sendable, crosses, spare_send) depth 20), (share_send L l, (search sendable, tt))))))

pub Shared-sync : (T L : RattleType) (g : topic.Ghosts T.Denot) (o : opening.Ghosts L.Denot) (l : ledger.Ghosts L.Denot) → IsSend T → IsSync (Shared.the_row T L g o l)
Shared-sync T L g o l s = let i = Inside-send T L g o l s in declared_sync (Shared.the_type T L g o l) (as_row_sync (Mutex.the_field (Inside.the_row T L g o l)) (search (sendable, crosses, i) depth 20), tt)
