-- What is read of a topic, and what stands of it.
use Rattle.std.specs.Prelude.{◌≡◌, ◌≤◌, ℕ, List, length, ⊤}
use Rattle.sqlite.specs.Tree.{Trees}
use Rattle.position_core.specs.declared.topic_name.TopicName.{TopicName}
use Rattle.position_core.specs.declared.message.Entry.{Entry}
use Rattle.position_core.specs.TopicName.{topic_text}
use Rattle.delivery_machine.specs.Places.{MayRestart}
use Rattle.row_forms.specs.Cells.{ENTRY}
use Rattle.row_forms.specs.Forms.{Span, entry_rows}
use Rattle.row_forms.specs.Standing.{HasIn, HasNone, Stands}
use Rattle.row_reading.specs.Reading.{MayBeTold}
use Rattle.row_store.specs.declared.finding.Found.{Found}
use Rattle.row_store.specs.declared.finding.Found.TheVariants.{Nothing, BadRows, Whole, More}
use Rattle.row_store.specs.Begun.{HasSpan, StandsSoFar}
use Rattle.row_store.specs.Keeping.{NoneStands}

-- the topic's messages are those of the log, where so many are gone
abbrev pub HasLog : List ℕ → ℕ → List Entry → Trees → Type 0
HasLog topic gone log db = HasIn ENTRY topic (entry_rows topic gone log) db

-- the topic has no rows, or rows of which no snapshot is read, or those of a snapshot, or what was read so far
abbrev pub IsFound : TopicName → Trees → Found → Type 0
IsFound name db Nothing = HasNone (topic_text name) db
IsFound name db BadRows = NoneStands name db
IsFound name db (Whole kept) = Stands kept db
IsFound name db (More r) = StandsSoFar db r

-- a snapshot that was read is the topic's, the topic may go on from it, and rows may tell it; what was read so far is the topic's
abbrev pub IsToldOf : TopicName → Found → Type 0
IsToldOf name Nothing = ⊤
IsToldOf name BadRows = ⊤
IsToldOf name (Whole kept) = (kept.name ≡ name) × MayRestart kept × MayBeTold kept
IsToldOf name (More r) = r.name ≡ name

-- where more may follow, so many messages were read
abbrev pub CountsTo : ℕ → Found → Type 0
CountsTo count Nothing = ⊤
CountsTo count BadRows = ⊤
CountsTo count (Whole kept) = ⊤
CountsTo count (More r) = length r.log ≡ count

-- 256 messages of the topic stand, or more
abbrev pub HasMany : TopicName → Trees → Type 0
HasMany name db = (span : Span) × (256 ≤ length span.log) × HasSpan (topic_text name) span db
