-- What a topic opens with.
use Rattle.std.specs.Prelude.{◌≡◌, ◌⊎◌, [], true, false, Option, None, Some, replicate}
use Rattle.position_core.specs.TopicName.{topic_text}
use Rattle.position_core.specs.declared.topic_name.TopicName.{TopicName}
use Rattle.sqlite.specs.Tree.{Trees}
use Rattle.delivery_machine.specs.State.{State, fresh}
use Rattle.delivery_machine.specs.Snapshot.{restarted}
use Rattle.delivery_machine.specs.Places.{snapshot_in}
use Rattle.topic_shared.specs.Kept.{Kept}
use Rattle.stored_cell.specs.Noted.{Noted}
use Rattle.stored_cell.specs.Held.{Held}
use Rattle.stored_cell.specs.declared.opening.Terms.{Terms}
use Rattle.row_forms.specs.Standing.{Stands, HasNone}

-- a cell in this state whose journal has no line, where nobody sits
abbrev pub begins : State → Terms → Kept
begins s terms = record {
  began = s;
  opening = s;
  state = s;
  viewed = s;
  lines = [];
  limit = terms.lines;
  taken = replicate terms.seats false;
  own_line = true;
  promised = false;
  unsaved = false;
}

-- a cell in this state, of which that stands in the rows
abbrev pub opened : State → Terms → Option Noted → Held
opened s terms stored = record { cell = begins s terms; stored = stored; outstanding = None; by_word = false }

-- the topic has rows, and the cell goes on from what they keep
pub record GoesOn (name : TopicName) (terms : Terms) (db : Trees) (cell : Held) : Type 0 where
  pub stored : Noted
  pub is_its : stored.kept.name ≡ name
  pub stands : Stands stored.kept db
  pub goes_on : cell ≡ opened (restarted (snapshot_in stored.kept)) terms (Some stored)

-- the topic has no rows, and the cell has nothing in it
pub record BeginsAnew (name : TopicName) (terms : Terms) (db : Trees) (cell : Held) : Type 0 where
  pub has_none : HasNone (topic_text name) db
  pub nothing : cell ≡ opened (fresh name terms.ledger_size) terms None

-- what a topic opens with
abbrev pub Opens : TopicName → Terms → Trees → Held → Type 0
Opens name terms db cell = GoesOn name terms db cell ⊎ BeginsAnew name terms db cell
