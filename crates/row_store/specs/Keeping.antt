-- What a keeper holds true, and what a store of several snapshots does.
use Rattle.std.specs.Prelude.{ℕ, ◌≡◌, ◌⊎◌, ◌↔◌, ◌++◌, Bool, false, true, not, List, [], ◌∷◌, All, Contains, filter, map, reverse, IsTrue, Option, IfSome}
use Rattle.std.specs.List.{list_any}
use Rattle.std.specs.Str.{bytes_eq}
use Rattle.position_core.specs.declared.topic_name.TopicName.{TopicName}
use Rattle.position_core.specs.TopicName.{same_topic, topic_text}
use Rattle.sqlite_trees.specs.declared.store.Store.{Ghosts}
use Rattle.sqlite.specs.Schema.{Schema}
use Rattle.sqlite.specs.Tree.{Trees}
use Rattle.sqlite.specs.Effect.{Database}
use Rattle.sqlite.specs.State.{State, HasCleanDisk}
use Rattle.sqlite.specs.Held.{Held, state}
use Rattle.delivery_machine.specs.State.{State as MachineState}
use Rattle.delivery_machine.specs.Snapshot.{snapshot_of}
use Rattle.delivery_machine.specs.Places.{KeptTopic, snapshot_in}
use Rattle.row_forms.specs.Cells.{TOPIC, ENTRY, SUB, ACK, DEAD, REDELIVERY}
use Rattle.row_forms.specs.Forms.{AreRowsOf, TopicRows}
use Rattle.row_forms.specs.Standing.{HasIn, Stands, KeepsOthers}
use Rattle.row_forms.specs.Schema.{schema_0, schema_9}
use Rattle.row_tables.specs.Ready.{IsReady, IsBlank, IsRaised, IsVersion1, IsVersion2}
use Rattle.row_reading.specs.Reading.{IsReadBack}
use Rattle.stored_cell.specs.Noted.{Noted, ToStore, GoesOn, all_rows, is_shown}
use Rattle.row_store.specs.declared.written.Written.{Written}
use Rattle.row_store.specs.Begun.{Begun, ReadTo, StandsSoFar}

-- a keeper, as contracts see it: its connection, whether it failed, the snapshots that it knows to stand in the rows,
-- how much its last store wrote, and the topic that it is loading by pieces
pub record Keeping (S : Type 0) : Type 0 where
  pub conn : Held S
  pub failed : Bool
  pub known : List KeptTopic
  pub written : Written
  pub reading : Option Begun

-- the topic's rows in a database of version 1 are these; there is no table of counts, of producers or of what is gone
pub record HasInVersion1 (topic : List ℕ) (rows : TopicRows) (db : Trees) : Type 0 where
  pub topics : HasIn TOPIC topic rows.topics db
  pub entries : HasIn ENTRY topic rows.entries db
  pub subs : HasIn SUB topic rows.subs db
  pub acks : HasIn ACK topic rows.acks db
  pub deads : HasIn DEAD topic rows.deads db
  pub counts : rows.counts ≡ []
  pub authors : rows.authors ≡ []
  pub retentions : rows.retentions ≡ []

-- those in a database of version 2, which has a table of counts
pub record HasInVersion2 (topic : List ℕ) (rows : TopicRows) (db : Trees) : Type 0 where
  pub topics : HasIn TOPIC topic rows.topics db
  pub entries : HasIn ENTRY topic rows.entries db
  pub subs : HasIn SUB topic rows.subs db
  pub acks : HasIn ACK topic rows.acks db
  pub deads : HasIn DEAD topic rows.deads db
  pub counts : HasIn REDELIVERY topic rows.counts db
  pub authors : rows.authors ≡ []
  pub retentions : rows.retentions ≡ []

-- what a crash leaves now is exactly what stands
abbrev pub IsSettled : State → Type 0
IsSettled s = (db : Trees) → s.may_leave db → db ≡ s.now.trees

-- a crash leaves one thing only now, also where the connection was shut and does not show it
abbrev pub LeavesOne : State → Type 0
LeavesOne s = (one other : Trees) → s.may_leave one → s.may_leave other → one ≡ other

-- no transaction is under way; and unless it failed, the tables are there, what it knows stands in them, and a crash leaves
-- exactly what stands
pub record IsKept {S : Type 0} (g : Ghosts S) (conn : Held S) (failed : Bool) (those : List KeptTopic) : Type 0 where
  pub autocommit : conn.in_transaction ≡ false
  pub ready : failed ≡ false → HasCleanDisk (state g conn) → IsTrue (state g conn).is_open → IsReady (state g conn).now
  pub known : failed ≡ false → HasCleanDisk (state g conn) → IsTrue (state g conn).is_open → All (λ (kept : KeptTopic). Stands kept (state g conn).now.trees) those
  pub settled : failed ≡ false → HasCleanDisk (state g conn) → IsTrue (state g conn).is_open → IsSettled (state g conn)
  pub one : failed ≡ false → HasCleanDisk (state g conn) → LeavesOne (state g conn)

-- and what was read so far of the topic that it is loading stands
abbrev pub IsReadOn : {S : Type 0} → Ghosts S → Held S → Bool → Option ReadTo → Type 0
IsReadOn g conn failed reading = failed ≡ false → HasCleanDisk (state g conn) → IsTrue (state g conn).is_open → IfSome reading (StandsSoFar (state g conn).now.trees)

-- the rows of these topics are what is kept of them, and those of all others are as they were
pub record StoresAll (kepts : List KeptTopic) (old new : Trees) : Type 0 where
  pub each : All (λ (kept : KeptTopic). Stands kept new) kepts
  pub others : KeepsOthers (map (λ (kept : KeptTopic). topic_text kept.name) kepts) old new

-- no snapshot of the topic stands in the database that is read back where it stands
abbrev pub NoneStands : TopicName → Trees → Type 0
NoneStands name db = (kept : KeptTopic) → IsReadBack kept → kept.name ≡ name → Stands kept db → ⊥

-- what is kept of a topic, with the rows that a database committed
abbrev pub stored_in : State → KeptTopic → Noted
stored_in s kept = record { kept = kept; rows = all_rows s.committed.trees; clean = is_shown s }

-- the rows of the topic are those of its state, and those of all others are as they were
abbrev pub StoresState : MachineState → Trees → Trees → Type 0
StoresState s old new = (kept : KeptTopic) × (snapshot_in kept ≡ snapshot_of s) × StoresAll (kept ∷ []) old new

-- of a database of an earlier version, this is what it became as a later one
abbrev pub IsRaisedFrom : Trees → Trees → Type 0
IsRaisedFrom was db = (first later : Schema) × IsRaised (record { schema = first; trees = was }) (record { schema = later; trees = db })

-- it is what it was, or was of an earlier version and became one of a later
abbrev pub IsTakenFrom : Trees → Trees → Type 0
IsTakenFrom was db = (db ≡ was) ⊎ IsRaisedFrom was db

-- what a start may leave: what there was before, what was committed, as it was or become a later version, or, where there was no table,
-- the tables with no rows
abbrev pub MayLeave : State → Trees → Type 0
MayLeave old db = old.may_leave db ⊎ (IsTakenFrom old.committed.trees db ⊎ ((old.now.schema ≡ schema_0) × IsBlank (record { schema = schema_9; trees = db })))

-- the topic's rows in a database of version 1 are those of what is kept of it, which counts nothing, and nothing of which is gone
abbrev pub StandsInVersion1 : KeptTopic → Trees → Type 0
StandsInVersion1 kept db = (rows : TopicRows) × AreRowsOf kept rows × HasInVersion1 (topic_text kept.name) rows db

-- those in a database of version 2 are, and nothing is gone
abbrev pub StandsInVersion2 : KeptTopic → Trees → Type 0
StandsInVersion2 kept db = (rows : TopicRows) × AreRowsOf kept rows × HasInVersion2 (topic_text kept.name) rows db

-- what is kept of the topic stands in the database, of whichever version that is
abbrev pub StandsInAny : KeptTopic → Database → Type 0
StandsInAny kept db = (IsVersion1 db × StandsInVersion1 kept db.trees) ⊎ (IsVersion2 db × StandsInVersion2 kept db.trees) ⊎ (IsReady db × Stands kept db.trees)

-- every topic that stood stands still, and no other
abbrev pub UpgradesKeepTopics : Type 0
UpgradesKeepTopics = (kept : KeptTopic) (old new : Database) → IsRaised old new → StandsInAny kept old ↔ StandsInAny kept new

-- what is known of all topics but this one
abbrev pub known_without : TopicName → List KeptTopic → List KeptTopic
known_without name known = filter (λ (kept : KeptTopic). not (same_topic kept.name name)) known

-- the snapshots that are to be stored
abbrev pub kepts : List ToStore → List KeptTopic
kepts parts = map (λ (part : ToStore). part.kept) parts

-- the part goes on from a snapshot that is known to stand; or no store of its topic was confirmed when it was viewed, and nothing is known
-- of the topic
abbrev pub GoesForward : List KeptTopic → ToStore → Type 0
GoesForward known part =
    ((base : KeptTopic) × Contains known base × Contains part.bases base × GoesOn base part.kept)
    ⊎ ((part.is_first ≡ true) × All (λ (kept : KeptTopic). same_topic kept.name part.kept.name ≡ false) known)

-- whether one of these is of the topic
abbrev pub is_of_one : List KeptTopic → KeptTopic → Bool
is_of_one kepts kept = list_any (λ (one : KeptTopic). bytes_eq (topic_text one.name) (topic_text kept.name)) kepts

-- what is known once these are stored: these, and of no topic of theirs anything else
abbrev pub known_after : List KeptTopic → List KeptTopic → List KeptTopic
known_after kepts known = filter (λ (kept : KeptTopic). not (is_of_one kepts kept)) known ++ reverse kepts
