-- What a round writes: the rows of topics, in one transaction.
use Rattle.std.specs.Prelude.{◌≡◌, ◌≢◌, ◌≤◌, length, ℕ, zero, suc, Bool, true, false, List, [], ◌∷◌, map, All, AllPairs, string_bytes, MatchBool}
use Rattle.position_core.specs.TopicName.{topic_text}
use Rattle.position_core.specs.declared.message.Entry.{Entry}
use Rattle.row_forms.specs.Properties.{properties_text}
use Rattle.sqlite.specs.Order.{Row}
use Rattle.sqlite.specs.Tree.{Trees}
use Rattle.delivery_machine.specs.Places.{KeptTopic}
use Rattle.row_forms.specs.declared.change.Change.{Change}
use Rattle.row_forms.specs.Cells.{TOPIC}
use Rattle.row_forms.specs.Forms.{TopicRows, AreRowsOf, no_rows}
use Rattle.row_forms.specs.Standing.{Has, Stands, KeepsOthers}
use Rattle.row_forms.specs.Changes.{Leads}
use Rattle.row_tables.specs.Goes.{Clears, Cuts, Adds}
use Rattle.row_rounds.specs.declared.saving.Write.{Write}

-- one step and then another
abbrev pub Via : (Trees → Trees → Type 0) → (Trees → Trees → Type 0) → Trees → Trees → Type 0
Via First Then old new = (mid : Trees) × First old mid × Then mid new

-- the topic's row becomes this one, if it is another
abbrev pub MayWriteTopic : Bool → List ℕ → Row → Trees → Trees → Type 0
MayWriteTopic false topic row old new = new ≡ old
MayWriteTopic true topic row old new = Via (Clears TOPIC topic) (Adds TOPIC (row ∷ [])) old new

-- messages leave, where any went: those below the place
abbrev pub MayCut : ℕ → List ℕ → ℕ → Trees → Trees → Type 0
MayCut zero topic end old new = new ≡ old
MayCut (suc went) topic end old new = Cuts topic end old new

-- the rows of the topic become those that the change leads to, and those of others stay
abbrev pub Changes : KeptTopic → Change → Trees → Trees → Type 0
Changes kept change old new =
    (olds news : TopicRows) → Has (topic_text kept.name) olds old → Leads kept change olds news → Has (topic_text kept.name) news new × KeepsOthers (topic_text kept.name ∷ []) old new

-- the topic has no rows any more, and those of others stay
abbrev pub Empties : List ℕ → Trees → Trees → Type 0
Empties topic old new = Has topic no_rows new × KeepsOthers (topic ∷ []) old new

-- the name of the topic is written out beside the snapshot
abbrev pub IsNamed : Write → Type 0
IsNamed w = string_bytes w.topic ≡ topic_text w.snapshot.name

abbrev pub name_of : Write → List ℕ
name_of w = topic_text w.snapshot.name

-- no topic comes twice
abbrev pub AreApart : List Write → Type 0
AreApart writes = AllPairs (λ (a b : Write). name_of a ≢ name_of b) writes

-- the message's properties, written out, take no more than this
abbrev pub HasRoomFor : ℕ → Entry → Type 0
HasRoomFor room e = length (properties_text e.body.properties) ≤ room

-- those of each of the messages do, one at a time
abbrev pub HasRoom : ℕ → List Entry → Type 0
HasRoom room log = All (HasRoomFor room) log

-- the change leads to the snapshot's rows, from those that stand there, or from none where the topic is written whole
pub record Fits (db : Trees) (w : Write) : Type 0 where
  pub olds : TopicRows
  pub news : TopicRows
  pub are : AreRowsOf w.snapshot news
  pub leads : Leads w.snapshot w.change olds news
  pub stood : MatchBool w.whole (olds ≡ no_rows) (Has (name_of w) olds db)

-- the topic's rows become those of its snapshot, where the change fits what stood there; those of others stay
abbrev pub WritesOne : Write → Trees → Trees → Type 0
WritesOne w old new = Fits old w → Stands w.snapshot new × KeepsOthers (name_of w ∷ []) old new

-- each topic's rows are those of its snapshot, and those of all other topics stay
pub record StandAll (writes : List Write) (old new : Trees) : Type 0 where
  pub rows : All (λ (w : Write). Stands w.snapshot new) writes
  pub others : KeepsOthers (map name_of writes) old new

-- a round of these topics, where each change fits what stood there
abbrev pub Rounds : List Write → Trees → Trees → Type 0
Rounds writes old new = All (Fits old) writes → StandAll writes old new
