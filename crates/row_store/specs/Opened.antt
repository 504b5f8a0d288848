-- What a topic is opened from.
use Rattle.std.specs.Prelude.{◌≡◌, ◌+◌, ◌==◌, ◌||◌, ◌⊎◌, ℕ, Bool, true, not, is_some, List, Option, Some, length}
use Rattle.position_core.specs.TopicName.{topic_text}
use Rattle.position_core.specs.declared.topic_name.TopicName.{TopicName}
use Rattle.sqlite.specs.Tree.{Trees}
use Rattle.delivery_machine.specs.State.{State}
use Rattle.delivery_machine.specs.Snapshot.{restarted, snapshot_of}
use Rattle.delivery_machine.specs.Places.{KeptTopic, snapshot_in}
use Rattle.row_forms.specs.Cells.{of_topic}
use Rattle.row_forms.specs.Forms.{TopicRows}
use Rattle.row_forms.specs.Standing.{HasNone, Stands}
use Rattle.row_reading.specs.Telling.{IsTold}
use Rattle.topic_lives.specs.Deleting.{is_bare}
use Rattle.stored_cell.specs.Noted.{Noted, all_rows}
use Rattle.stored_cell.specs.Held.{Held, IsAtRest}
use Rattle.stored_cell.specs.Opening.{Opens}
use Rattle.stored_cell.specs.declared.opening.Terms.{Terms}

-- the rows that were noted are those of a database, and the topic opened with what this keeps of it
pub record IsOpenedFrom (noted : Noted) (cell : Held) : Type 0 where
  pub terms : Terms
  pub db : Trees
  pub rows : noted.rows ≡ all_rows db
  pub opens : Opens cell.cell.state.name terms db cell

-- the same, where the database was open and the disk returned what was written to it
abbrev pub OpenedFrom : Noted → Held → Type 0
OpenedFrom noted cell = noted.clean ≡ true → IsOpenedFrom noted cell

-- what is stored of a topic that was loaded, and the rows that were noted as it was
pub record Loading : Type 0 where
  pub stored : Noted
  pub rows : Noted

-- what is stored of it stands in the database whose rows were noted
abbrev pub StandsIn : Loading → Type 0
StandsIn l = (db : Trees) × (l.rows.rows ≡ all_rows db) × Stands l.stored.kept db

-- it has no rows, or those of what is bare: there is no message, no subscription, and no rule of its own
abbrev pub KeepsNothing : TopicName → Trees → Type 0
KeepsNothing name db = HasNone (topic_text name) db ⊎ ((kept : KeptTopic) × (kept.name ≡ name) × Stands kept db × (is_bare (snapshot_in kept) ≡ true))

-- how many rows the topic has among those of all topics
abbrev pub count_of : List ℕ → TopicRows → ℕ
count_of topic all =
    length (of_topic topic all.topics) + length (of_topic topic all.entries) + length (of_topic topic all.subs) + length (of_topic topic all.acks)
    + length (of_topic topic all.deads) + length (of_topic topic all.counts) + length (of_topic topic all.authors) + length (of_topic topic all.retentions)

-- something of the topic is stored; or the rows that were noted have none of it, where the database was open and the disk clean
unfoldable pub has_origin : Noted → Option Noted → TopicName → Bool
has_origin noted stored name = is_some stored || not noted.clean || count_of (topic_text name) noted.rows == 0

-- ---- a topic that is opened again

-- it goes on from the state's snapshot; or the state was only opened, and it is again as the state is
abbrev pub GoesOnFrom : State → State → Type 0
GoesOnFrom s again = (again ≡ restarted (snapshot_of s)) ⊎ (snapshot_of again ≡ snapshot_of s)

-- where a topic is at rest, and what is stored of it stands, whatever is opened of its name from a snapshot that stands there goes on from it
abbrev pub WhatRestsIsFound : Type 0
WhatRestsIsFound =
    (h : Held) (n : Noted) (kept : KeptTopic) (db : Trees) → IsAtRest h → h.stored ≡ Some n → IsTold n.kept → Stands n.kept db
    → IsTold kept → kept.name ≡ n.kept.name → Stands kept db → GoesOnFrom h.cell.state (restarted (snapshot_in kept))
