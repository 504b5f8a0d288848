-- A directory may be used by several threads.
use denote.RattleType.{RattleType}
use denote.Param.Send.{IsSend, IsSync, sendable, view_send}
use denote.Param.SendFields.{as_row_send, as_row_sync, declared_send, declared_sync}
use Rattle.std.proofs.Crossing.{crosses}
use Rattle.delivery_machine.specs.declared.saved.Saved as saved
use Rattle.delivery_machine.specs.declared.topic.Topic as topic
use Rattle.marks.specs.declared.history.Naming as naming
use Rattle.sqlite_trees.specs.declared.store.Store as store
use Rattle.position_core.proofs.topic_name.TopicName.TheSendSync.{the_send as name_send, the_sync as name_sync}
use Rattle.topic_shared.proofs.Crosses.{Cell-send}
use Rattle.marks.proofs.mark.Mark.TheSendSync.{the_send as mark_send}
use Rattle.stored_cell.proofs.viewed.Stored.TheSendSync.{the_send as stored_send}
use Rattle.stored_cell.proofs.viewed.Viewed.TheSendSync.{the_send as viewed_send}
use Rattle.broker_parts.proofs.stage.Stage.TheSendSync.{the_send as stage_send}
use Rattle.broker_dir.proofs.table.Listed.TheSendSync.{the_send as listed_send}
use Rattle.broker_parts.proofs.waiting.Opening.TheSendSync.{the_send as opening_send, the_sync as opening_sync}
use Rattle.broker_parts.proofs.hearers.Hearers.TheSendSync.{the_send as hearers_send}
use Rattle.broker_parts.proofs.wanted.Wanted.TheSendSync.{the_send as wanted_send}
use Rattle.broker_parts.proofs.bulk.Bulk.TheSendSync.{the_send as bulk_send}
use Rattle.broker_parts.proofs.signs.Signs.TheSendSync.{the_send as signs_send, the_sync as signs_sync}
use Rattle.broker_parts.proofs.board.Board.TheSendSync.{the_send as board_send, the_sync as board_sync}
use Rattle.broker_dir.proofs.closing.Closed.TheSendSync.{the_send as closed_send, the_sync as closed_sync}
use Rattle.broker_parts.proofs.uses.Uses.TheSendSync.{the_send as uses_send, the_sync as uses_sync}
use Rattle.broker_parts.proofs.counts.Counts.TheSendSync.{the_send as counts_send, the_sync as counts_sync}
use Rattle.broker_parts.proofs.steps.Steps.TheSendSync.{the_send as steps_send, the_sync as steps_sync}
use Rattle.broker_parts.proofs.backup.Backups.TheSendSync.{the_send as backups_send, the_sync as backups_sync}
use Rattle.broker_parts.proofs.files.DataFiles.TheSendSync.{the_send as files_send, the_sync as files_sync}
use Rattle.stored_cell.proofs.opening.Terms.TheSendSync.{the_send as terms_send, the_sync as terms_sync}
use Rattle.delivery_machine.proofs.retention.Retention.TheSendSync.{the_send as rule_send, the_sync as rule_sync}
use Rattle.row_store.proofs.keeper.Keeper.TheSendSync.{the_send as keeper_send}
use Rattle.std.specs.contracts.option.Option as Option
use Rattle.std.specs.contracts.sync.Mutex as Mutex
use Rattle.std.specs.contracts.sync.Arc as Arc
use Rattle.std.specs.contracts.alloc.Global as Global
use Rattle.std.specs.contracts.impls.GlobalAllocator.TheImpl.{ghosts}
use Rattle.stored_cell.specs.contracts.viewed.Stored as Stored
use Rattle.stored_cell.specs.contracts.viewed.Viewed as Viewed
use Rattle.stored_cell.specs.contracts.cell.StoredCell as StoredCell
use Rattle.stored_cell.specs.contracts.cell.StoredCell.TheInside as StoredFields
use Rattle.broker_parts.specs.contracts.backup.Backups as Backups
use Rattle.broker_parts.specs.contracts.files.DataFiles as DataFiles
use Rattle.broker_dir.specs.contracts.named_cell.NamedCell as NamedCell
use Rattle.broker_dir.specs.contracts.inside.Inside as Inside
use Rattle.broker_dir.specs.contracts.table.Table as Table
use Rattle.broker_dir.specs.contracts.topic.Shared as Shared
use Rattle.broker_parts.specs.contracts.waiting.Opening as Opening
use Rattle.std.specs.contracts.vec.Vec as Vec
use Rattle.broker_dir.specs.contracts.directory.Directory as Directory
use Rattle.row_store.specs.contracts.keeper.Keeper as Keeper

StoredCell-send : (T I : RattleType) (g : topic.Ghosts T.Denot) (n : naming.Ghosts I.Denot) → IsSend T → IsSend (StoredCell.the_row T I g n)
StoredCell-send T I g n s = let c = Cell-send T g s in view_send _ _ _ _ _ (declared_send (StoredFields.the_type T I g n) (
  c,
  (
    as_row_send (Option.the_field (Stored.the_row I n)) (search (sendable, crosses, stored_send) depth 20),
    (as_row_send (Option.the_field (Viewed.the_row I n)) (search (sendable, crosses, viewed_send) depth 20), (search sendable, tt)),
  ),
))

NamedCell-send : (T I : RattleType) (g : topic.Ghosts T.Denot) (v : saved.Ghosts T.Denot) (n : naming.Ghosts I.Denot) → IsSend T → IsSend (NamedCell.the_row T I g v n)
NamedCell-send T I g v n s = let cell = StoredCell-send T I g n s in
    declared_send (NamedCell.the_type T I g v n) (name_send, (cell, (search (sendable, crosses, mark_send) depth 20, tt)))

Inside-send : (T I B : RattleType) (g : topic.Ghosts T.Denot) (v : saved.Ghosts T.Denot) (n : naming.Ghosts I.Denot) → IsSend T → IsSend B → IsSync B → IsSend (Inside.the_row T I B g v n)
Inside-send T I B g v n s b c = let topic = NamedCell-send T I g v n s in let hearers = hearers_send B b c in declared_send (Inside.the_type T I B g v n)
    (topic, (stage_send, (hearers, (wanted_send, (search sendable, (search sendable, (bulk_send, tt)))))))

Shared-send : (T I B : RattleType) (g : topic.Ghosts T.Denot) (v : saved.Ghosts T.Denot) (n : naming.Ghosts I.Denot) → IsSend T → IsSend B → IsSync B → IsSend (Shared.the_row T I B g v n)
Shared-send T I B g v n s b c = let i = Inside-send T I B g v n s b c in declared_send (Shared.the_type T I B g v n)
    (name_send, (as_row_send (Mutex.the_field (Inside.the_row T I B g v n)) (search (sendable, crosses, i) depth 20), (signs_send, tt)))

Shared-sync : (T I B : RattleType) (g : topic.Ghosts T.Denot) (v : saved.Ghosts T.Denot) (n : naming.Ghosts I.Denot) → IsSend T → IsSend B → IsSync B → IsSync (Shared.the_row T I B g v n)
Shared-sync T I B g v n s b c = let i = Inside-send T I B g v n s b c in declared_sync (Shared.the_type T I B g v n)
    (name_sync, (as_row_sync (Mutex.the_field (Inside.the_row T I B g v n)) (search (sendable, crosses, i) depth 20), (signs_sync, tt)))

Arc-send : (T I B : RattleType) (g : topic.Ghosts T.Denot) (v : saved.Ghosts T.Denot) (n : naming.Ghosts I.Denot) → IsSend T → IsSend B → IsSync B → IsSend (Arc.the_row (Shared.the_row T I B g v n) Global.the_row ghosts)
Arc-send T I B g v n s b c = let ss = Shared-send T I B g v n s b c in let sy = Shared-sync T I B g v n s b c in search (sendable, crosses, ss, sy) depth 20

Opening-send : (B : RattleType) → IsSend B → IsSync B → IsSend (Arc.the_row (Opening.the_row B) Global.the_row ghosts)
Opening-send B b c = let os = opening_send B b c in let oy = opening_sync B b c in search (sendable, crosses, os, oy) depth 20

Table-send : (T I B : RattleType) (g : topic.Ghosts T.Denot) (v : saved.Ghosts T.Denot) (n : naming.Ghosts I.Denot) → IsSend T → IsSend B → IsSync B → IsSend (Table.the_row T I B g v n)
Table-send T I B g v n s b c = let a = Arc-send T I B g v n s b c in let o = Opening-send B b c in declared_send (Table.the_type T I B g v n) (
  listed_send (Arc.the_row (Shared.the_row T I B g v n) Global.the_row ghosts) a,
  (
    as_row_send (Vec.the_field (Arc.the_row (Opening.the_row B) Global.the_row ghosts) Global.the_row ghosts)
        (search (sendable, crosses, o) depth 20),
    tt,
  ),
)

pub Directory-send : (T K I B : RattleType) (g : topic.Ghosts T.Denot) (v : saved.Ghosts T.Denot) (o : store.Ghosts K.Denot) (n : naming.Ghosts I.Denot) → IsSend T → IsSend K → IsSend B → IsSync B → IsSend (Directory.the_row T K I B g v n o)
Directory-send T K I B g v o n s k b c = let X = Arc.the_row (Shared.the_row T I B g v n) Global.the_row ghosts in let a = Arc-send T I B g v n s b c in
    let t = Table-send T I B g v n s b c in let d = board_send X a in let e = keeper_send K I n o k in declared_send (Directory.the_type T K I B g v n o) (
      search (sendable, crosses) depth 20,
      (
        terms_send,
        (
          rule_send,
          (
            as_row_send (Mutex.the_field (Table.the_row T I B g v n)) (search (sendable, crosses, t) depth 20),
            (as_row_send (Mutex.the_field (Keeper.the_row K I n o)) (search (sendable, crosses, e) depth 20), (d, (closed_send, (uses_send, (counts_send, (steps_send, (as_row_send (Option.the_field Backups.the_row) (search (sendable, crosses, backups_send) depth 20), (as_row_send (Option.the_field DataFiles.the_row) (search (sendable, crosses, files_send) depth 20), (search (sendable, crosses) depth 20, (search (sendable, crosses) depth 20, tt)))))))))),
          ),
        ),
      ),
    )

pub Directory-sync : (T K I B : RattleType) (g : topic.Ghosts T.Denot) (v : saved.Ghosts T.Denot) (o : store.Ghosts K.Denot) (n : naming.Ghosts I.Denot) → IsSend T → IsSend K → IsSend B → IsSync B → IsSync (Directory.the_row T K I B g v n o)
Directory-sync T K I B g v o n s k b c = let X = Arc.the_row (Shared.the_row T I B g v n) Global.the_row ghosts in let a = Arc-send T I B g v n s b c in
    let t = Table-send T I B g v n s b c in let d = board_sync X a in let e = keeper_send K I n o k in declared_sync (Directory.the_type T K I B g v n o) (
      search (sendable, crosses) depth 20,
      (
        terms_sync,
        (
          rule_sync,
          (
            as_row_sync (Mutex.the_field (Table.the_row T I B g v n)) (search (sendable, crosses, t) depth 20),
            (as_row_sync (Mutex.the_field (Keeper.the_row K I n o)) (search (sendable, crosses, e) depth 20), (d, (closed_sync, (uses_sync, (counts_sync, (steps_sync, (as_row_sync (Option.the_field Backups.the_row) (search (sendable, crosses, backups_sync) depth 20), (as_row_sync (Option.the_field DataFiles.the_row) (search (sendable, crosses, files_sync) depth 20), (search (sendable, crosses) depth 20, (search (sendable, crosses) depth 20, tt)))))))))),
          ),
        ),
      ),
    )
