-- `ok` means stored: what was told durable stands in the rows of its topic, whatever a crash leaves, until it is trimmed.
use Rattle.std.specs.Prelude.{◌≡◌, ◌≢◌, ◌⊎◌, ◌++◌, ◌-◌, ◌+◌, ◌≤◌, ◌<◌, ⊤, ℕ, true, false, List, [], ◌∷◌, All, Contains, Some, drop, length, slice_get}
use mathlib.Core.List.{IsPrefix}
use Rattle.position_core.specs.TopicName.{same_topic, topic_text}
use Rattle.position_core.specs.declared.topic_name.TopicName.{TopicName}
use Rattle.position_core.specs.declared.message.Entry.{Entry}
use Rattle.sqlite.specs.Tree.{Trees}
use Rattle.delivery_machine.specs.State.{State}
use Rattle.delivery_machine.specs.Run.{Answers}
use Rattle.delivery_machine.specs.Snapshot.{restarted}
use Rattle.delivery_machine.specs.Places.{KeptTopic, MayRestart, snapshot_in}
use Rattle.delivery_machine.specs.declared.event.Event.TheVariants.{Progress}
use Rattle.delivery_machine.specs.declared.reply.Reply.TheVariants.{Progress as Told}
use Rattle.row_forms.specs.Standing.{Stands}
use Rattle.stored_cell.specs.Noted.{IsStored, Noted, ToStore, all_rows}
use Rattle.stored_cell.specs.Held.{Held, IsBeginning, IsSound}
use Rattle.stored_cell.specs.Opening.{opened}
use Rattle.stored_cell.specs.declared.opening.Terms.{Terms}
use Rattle.row_store.specs.Keeping.{GoesForward, StoresAll, kepts, known_after, known_without}

-- ---- messages by their places among all that the topic ever had

-- the message stands at the place in the log, from whose front so many are gone
abbrev pub IsAt : ℕ → List Entry → ℕ → Entry → Type 0
IsAt gone log place e = (gone ≤ place) × (slice_get log (place - gone) ≡ Some e)

-- the snapshot has each message of the state that stands below the bound, at its place
abbrev pub HasBelow : ℕ → State → KeptTopic → Type 0
HasBelow bound s kept = (place : ℕ) (e : Entry) → place < bound → IsAt s.gone s.log place e → IsAt kept.gone kept.log place e

-- and so it has, but for those that are gone in it
abbrev pub HasStill : ℕ → State → KeptTopic → Type 0
HasStill bound s kept = (place : ℕ) (e : Entry) → place < bound → IsAt s.gone s.log place e → (place < kept.gone) ⊎ IsAt kept.gone kept.log place e

-- the later snapshot is of the same topic, and its log begins with the messages of the earlier that are not gone in it
pub record KeepsMessages (earlier later : KeptTopic) : Type 0 where
  pub name : topic_text later.name ≡ topic_text earlier.name
  pub gone : earlier.gone ≤ later.gone
  pub log : IsPrefix (drop (later.gone - earlier.gone) earlier.log) later.log

-- ---- what a keeper does

-- a keeper's rows, and the snapshots that it knows to stand in them
pub record Rows : Type 0 where
  pub db : Trees
  pub known : List KeptTopic

-- It stores parts, loads a snapshot, forgets a topic, deletes one, of which this is left, or is begun anew over the same rows. So a crash
-- in between is a new beginning, after the deed that was under way, or without it.
pub data Deed : Type 0 where
  Stores : List ToStore → Deed
  Loads : KeptTopic → Deed
  Forgets : TopicName → Deed
  Deletes : KeptTopic → Deed
  Begins : Deed

-- what a deed makes of the rows, and of what is known
abbrev pub Does : Deed → Rows → Rows → Type 0
Does (Stores parts) old new = All (GoesForward old.known) parts × StoresAll (kepts parts) old.db new.db × (new.known ≡ known_after (kepts parts) old.known)
Does (Loads kept) old new = Stands kept old.db × (new.db ≡ old.db) × (new.known ≡ old.known ++ kept ∷ [])
Does (Forgets name) old new = (new.db ≡ old.db) × (new.known ≡ known_without name old.known)
Does (Deletes left) old new = StoresAll (left ∷ []) old.db new.db × (new.known ≡ known_without left.name old.known)
Does Begins old new = (new.db ≡ old.db) × (new.known ≡ [])

-- something is known of the topic
abbrev pub IsKnown : TopicName → List KeptTopic → Type 0
IsKnown name known = (other : KeptTopic) × Contains known other × (same_topic other.name name ≡ true)

-- the deed does not delete the topic with this text, and stores no part of it, viewed before a store of it was confirmed, where nothing is
-- known of it
abbrev pub Spares : List ℕ → List KeptTopic → Deed → Type 0
Spares text known (Stores parts) = All (λ (part : ToStore). topic_text part.kept.name ≡ text → part.is_first ≡ true → IsKnown part.kept.name known) parts
Spares text known (Loads kept) = ⊤
Spares text known (Forgets name) = ⊤
Spares text known (Deletes left) = topic_text left.name ≢ text
Spares text known Begins = ⊤

-- what a deed that spares the topic makes of the rows
abbrev pub DoesBeside : List ℕ → Deed → Rows → Rows → Type 0
DoesBeside text deed old new = Does deed old new × Spares text old.known deed

-- such deeds, one after the other
abbrev pub AllDoBeside : List ℕ → List Deed → Rows → Rows → Type 0
AllDoBeside text [] old new = new ≡ old
AllDoBeside text (deed ∷ deeds) old new = (mid : Rows) × DoesBeside text deed old mid × AllDoBeside text deeds mid new

-- what a crash leaves while such a deed is under way: the rows as they were, or as they are with it
abbrev pub MayBeLeft : List ℕ → Rows → Deed → Trees → Type 0
MayBeLeft text now under_way left = (left ≡ now.db) ⊎ ((next : Rows) × DoesBeside text under_way now next × (left ≡ next.db))

-- ---- the promise

-- what is known stands, as a keeper's type keeps it
abbrev pub KnowsWhatStands : Rows → Type 0
KnowsWhatStands rows = All (λ (kept : KeptTopic). Stands kept rows.db) rows.known

-- rows of the topic are left, and these have the snapshot's messages, and those of the state below the bound, but for those that are gone
pub record IsLeft (bound : ℕ) (s : State) (kept : KeptTopic) (left : Trees) : Type 0 where
  pub later : KeptTopic
  pub stands : Stands later left
  pub keeps : KeepsMessages kept later
  pub messages : HasStill bound s later

-- so it is from the database on in which the snapshot stood, after any deeds that spare its topic, and while one more is under way
abbrev pub StaysStored : ℕ → State → KeptTopic → Trees → Type 0
StaysStored bound s kept db =
    (first now : Rows) (deeds : List Deed) (under_way : Deed) (left : Trees)
    → first.db ≡ db → KnowsWhatStands first
    → AllDoBeside (topic_text kept.name) deeds first now → MayBeLeft (topic_text kept.name) now under_way left
    → IsLeft bound s kept left

-- the snapshot was stored of the cell, and has each of the messages that were told durable
pub record IsToldOf (h : Held) (durable : ℕ) (n : Noted) : Type 0 where
  pub confirmed : h.stored ≡ Some n
  pub begins : IsBeginning h.cell.state n.kept
  pub rows : IsStored n
  pub reaches : durable ≤ n.kept.gone + length n.kept.log
  pub messages : HasBelow durable h.cell.state n.kept

-- A sound cell of which nothing is durable by a caller's word, and which tells that messages are durable, has a snapshot with all of
-- them that stands in rows that were committed; and from these on, whatever a crash leaves has each of them, but for those that were
-- trimmed.
abbrev pub OkIsStored : Type 0
OkIsStored =
    (h : Held) (durable all : ℕ) (t : State) → IsSound h → h.by_word ≡ false → 0 < durable → Answers h.cell.state Progress (Told durable all) t
    → (n : Noted) × IsToldOf h durable n × (n.clean ≡ true → (db : Trees) → n.rows ≡ all_rows db → StaysStored durable h.cell.state n.kept db)

-- The promise speaks of each topic with messages: as it is opened from a snapshot that stands, it tells them durable, and all is so that
-- the promise asks for.
abbrev pub OpenedAreTold : Type 0
OpenedAreTold =
    (kept : KeptTopic) (terms : Terms) (db : Trees) → MayRestart kept → Stands kept db → 0 < length kept.log
    → (let n : Noted = record { kept = kept; rows = all_rows db; clean = true } in
    let h : Held = opened (restarted (snapshot_in kept)) terms (Some n) in
    let durable : ℕ = kept.gone + length kept.log in
    IsSound h × (h.by_word ≡ false) × (0 < durable) × Answers h.cell.state Progress (Told durable durable) h.cell.state)
