-- A topic that is read piece by piece.
use Rattle.std.specs.Prelude.{◌+◌, ◌≢◌, ℕ, List, Option, Some, None, IfSome, if◌then◌else◌, filter, length, IsPermutation}
use Rattle.std.specs.Str.{bytes_eq}
use Rattle.position_core.specs.declared.topic_name.TopicName.{TopicName}
use Rattle.position_core.specs.declared.message.Entry.{Entry}
use Rattle.position_core.specs.TopicName.{same_topic, topic_text}
use Rattle.sqlite.specs.Tree.{Trees}
use Rattle.delivery_machine.specs.Places.{KeptTopic}
use Rattle.row_forms.specs.Forms.{Span, entry_rows}
use Rattle.row_tables.specs.declared.side_rows.SideRows.{SideRows}
use Rattle.row_tables.specs.Pieces.{is_within, messages_of}
use Rattle.row_tables.specs.Sides.{AreSidesOf, AreSorted}
use Rattle.row_reading.specs.declared.retention_rows.Front.{Front}
use Rattle.row_reading.specs.declared.topic_row.Head.{Head}
use Rattle.row_store.specs.declared.pace.Pace.{Pace}
use Rattle.row_store.specs.declared.pace.Pace.TheVariants.{AtOnce, Pieces}

-- what was read of a topic: the rows beside its messages, what its own row says, how many messages are gone and its rule, and the first
-- of those that stay
pub record ReadTo : Type 0 where
  pub name : TopicName
  pub sides : SideRows
  pub head : Head
  pub front : Front
  pub log : List Entry

-- the messages of the topic from the first place that is not gone on, and below the other, are those of the log
abbrev pub HasLogBelow : List ℕ → ℕ → ℕ → List Entry → Trees → Type 0
HasLogBelow topic gone end log db = IsPermutation (entry_rows topic gone log) (filter (is_within gone end) (messages_of topic db))

-- the messages of the topic from the span's first place on, as far as it reaches, are those of the span
abbrev pub HasSpan : List ℕ → Span → Trees → Type 0
HasSpan topic span db = HasLogBelow topic span.gone (span.gone + length span.log) span.log db

-- the messages that were read of it
abbrev pub span_to : ReadTo → Span
span_to r = record { gone = r.front.gone; log = r.log }

-- what was read of it stands
pub record StandsSoFar (db : Trees) (r : ReadTo) : Type 0 where
  pub sides : AreSidesOf (topic_text r.name) db r.sides
  pub sorted : AreSorted r.sides
  pub below : HasSpan (topic_text r.name) (span_to r) db

-- a topic that is being read, and how many of its messages were
pub record Begun : Type 0 where
  pub name : TopicName
  pub count : ℕ

abbrev pub begun_of : ReadTo → Begun
begun_of r = record { name = r.name; count = length r.log }

-- what is kept of a topic of which more is to be read: by pieces, that
abbrev pub kept_by : Pace → ReadTo → Option ReadTo → Option ReadTo
kept_by AtOnce r kept = kept
kept_by Pieces r kept = Some r

-- how many messages were read
abbrev pub read_of : Option ReadTo → ℕ
read_of None = 0
read_of (Some r) = length r.log

-- how many messages of this topic were
abbrev pub count_for : TopicName → Option Begun → ℕ
count_for name None = 0
count_for name (Some b) = if same_topic b.name name then b.count else 0

-- what is being read after one piece more of the topic, where others may follow: by pieces, this topic
abbrev pub begun_by : Pace → TopicName → Option Begun → Option Begun
begun_by AtOnce name begun = begun
begun_by Pieces name begun = Some (record { name = name; count = count_for name begun + 256 })

-- and where none can follow: by pieces, nothing is
abbrev pub left_by : Pace → Option Begun → Option Begun
left_by AtOnce begun = begun
left_by Pieces begun = None

-- what is being read, but for the topic with this text
abbrev pub read_without : List ℕ → Option ReadTo → Option ReadTo
read_without topic None = None
read_without topic (Some r) = if bytes_eq (topic_text r.name) topic then None else Some r

abbrev pub begun_without : List ℕ → Option Begun → Option Begun
begun_without topic None = None
begun_without topic (Some b) = if bytes_eq (topic_text b.name) topic then None else Some b

-- the topic of what is kept is not being read
abbrev pub IsUnread : Option Begun → KeptTopic → Type 0
IsUnread begun kept = IfSome begun (λ (b : Begun). topic_text b.name ≢ topic_text kept.name)
