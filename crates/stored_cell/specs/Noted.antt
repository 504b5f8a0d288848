-- What a history of stores names: what is kept of a topic, or the rows that a commit left.
use Rattle.std.specs.Prelude.{◌≡◌, ◌⊎◌, ◌&&◌, ◌-◌, ◌≤◌, ℕ, Bool, true, List, [], ◌∷◌, Option, None, Some, IsPermutation, drop}
use mathlib.Core.List.{IsPrefix}
use Rattle.position_core.specs.TopicName.{topic_text}
use Rattle.sqlite.specs.Tree.{Trees}
use Rattle.sqlite.specs.State.{State}
use Rattle.delivery_machine.specs.State.{State as Machine}
use Rattle.delivery_machine.specs.Snapshot.{snapshot_of, restarted}
use Rattle.delivery_machine.specs.Places.{KeptTopic, snapshot_in}
use Rattle.topic_shared.specs.Lines.{Line, Legal}
use Rattle.row_forms.specs.Cells.{TOPIC, ENTRY, SUB, ACK, DEAD, REDELIVERY, AUTHOR, RETENTION, bodies, of_topic}
use Rattle.row_forms.specs.Forms.{TopicRows, AreRowsOf}

-- the rows of all topics, table by table
abbrev pub all_rows : Trees → TopicRows
all_rows db = record {
  topics = bodies TOPIC (db TOPIC);
  entries = bodies ENTRY (db ENTRY);
  subs = bodies SUB (db SUB);
  acks = bodies ACK (db ACK);
  deads = bodies DEAD (db DEAD);
  counts = bodies REDELIVERY (db REDELIVERY);
  authors = bodies AUTHOR (db AUTHOR);
  retentions = bodies RETENTION (db RETENTION);
}

-- among the rows of all topics, those of this topic are these, in any order
pub record HasAmong (topic : List ℕ) (rows all : TopicRows) : Type 0 where
  pub topics : IsPermutation rows.topics (of_topic topic all.topics)
  pub entries : IsPermutation rows.entries (of_topic topic all.entries)
  pub subs : IsPermutation rows.subs (of_topic topic all.subs)
  pub acks : IsPermutation rows.acks (of_topic topic all.acks)
  pub deads : IsPermutation rows.deads (of_topic topic all.deads)
  pub counts : IsPermutation rows.counts (of_topic topic all.counts)
  pub authors : IsPermutation rows.authors (of_topic topic all.authors)
  pub retentions : IsPermutation rows.retentions (of_topic topic all.retentions)

-- the topic's rows among these are those of what is kept of it
abbrev pub StandsAmong : KeptTopic → TopicRows → Type 0
StandsAmong kept all = (rows : TopicRows) × AreRowsOf kept rows × HasAmong (topic_text kept.name) rows all

-- whether the database is open, and the disk returned what was written to it
abbrev pub is_shown : State → Bool
is_shown s = s.is_clean && s.is_open

-- `clean` is whether after the commit the database was open, and up to it the disk returned what was written to it
pub record Noted : Type 0 where
  pub kept : KeptTopic
  pub rows : TopicRows
  pub clean : Bool

-- nothing is kept of it: no topic has this name
abbrev pub nothing_kept : KeptTopic
nothing_kept = record {
  name = record { tenant = []; namespace = []; topic = [] };
  ledger_size = 0;
  ledger = 0;
  next_ordinal = 0;
  gone = 0;
  authors = [];
  retention = None;
  log = [];
  subscriptions = [];
}

-- what is kept of a topic stands in rows that were committed, over a disk that returns what is written to it
abbrev pub IsStored : Noted → Type 0
IsStored n = n.clean ≡ true → StandsAmong n.kept n.rows

-- what is kept by the mark, if there is one
abbrev pub marked : Option Noted → List KeptTopic
marked None = []
marked (Some n) = n.kept ∷ []

-- a snapshot that is to be stored, with those that the topic goes on from: of which it was confirmed last that they are
-- stored, or which were viewed since; `is_first` is whether no store of the topic was confirmed then, so that this may be its first
pub record ToStore : Type 0 where
  pub kept : KeptTopic
  pub bases : List KeptTopic
  pub is_first : Bool

-- it is kept of this state, or this is the state in which the topic went on from it
abbrev pub IsOfView : Machine → KeptTopic → Type 0
IsOfView viewed kept = (snapshot_in kept ≡ snapshot_of viewed) ⊎ (viewed ≡ restarted (snapshot_in kept))

-- what is kept is the state's snapshot; or the state's is that of the topic as it went on from what is kept: the same but for the ledger
abbrev pub IsOfNow : Machine → KeptTopic → Type 0
IsOfNow s kept = (snapshot_in kept ≡ snapshot_of s) ⊎ (snapshot_of (restarted (snapshot_in kept)) ≡ snapshot_of s)

-- both are of one topic, the second log begins with what of the first has not gone since, and events alone lead from the first to the
-- second
pub record GoesOn (base kept : KeptTopic) : Type 0 where
  pub name : kept.name ≡ base.name
  pub gone : base.gone ≤ kept.gone
  pub log : IsPrefix (drop (kept.gone - base.gone) base.log) kept.log
  pub events : (first last : Machine) × (lines : List Line) × IsOfView first base × Legal first lines last × (snapshot_in kept ≡ snapshot_of last)
