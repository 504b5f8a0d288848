-- What stands after a list of stores, and what a crash leaves then.
use Rattle.std.specs.Prelude.{◌≡◌, ◌⊎◌, ◌++◌, ℕ, List, [], ◌∷◌, Option, None, Some, find}
use Rattle.std.specs.Str.{bytes_eq}
use Rattle.position_core.specs.TopicName.{topic_text}
use Rattle.sqlite.specs.Tree.{Trees}
use Rattle.delivery_machine.specs.Places.{KeptTopic}
use Rattle.row_forms.specs.Standing.{Same, Stands}
use Rattle.row_store.specs.Keeping.{StoresAll}

-- these stores, one after the other, lead from the one database to the other; a deletion is a store of what is left of its topic, and a
-- load, and what was refused with nothing changed, is a store of no topic
abbrev pub AllDone : List (List KeptTopic) → Trees → Trees → Type 0
AllDone [] old new = new ≡ old
AllDone (kepts ∷ stores) old new = (mid : Trees) × StoresAll kepts old mid × AllDone stores mid new

-- what one store stores of the topic with this text
abbrev pub stored_by : List ℕ → List KeptTopic → Option KeptTopic
stored_by text kepts = find (λ (kept : KeptTopic). bytes_eq (topic_text kept.name) text) kepts

abbrev pub later_of : Option KeptTopic → Option KeptTopic → Option KeptTopic
later_of None earlier = earlier
later_of (Some kept) earlier = Some kept

-- what was stored last of the topic with this text, if anything was
abbrev pub last_stored : List ℕ → List (List KeptTopic) → Option KeptTopic
last_stored text [] = None
last_stored text (kepts ∷ stores) = later_of (last_stored text stores) (stored_by text kepts)

-- the topic's rows are those of what was stored last of it; and if nothing was, they are as they were
abbrev pub IsStoredLast : List ℕ → Option KeptTopic → Trees → Trees → Type 0
IsStoredLast text None old db = Same text old db
IsStoredLast text (Some kept) old db = (topic_text kept.name ≡ text) × Stands kept db

-- so it is of each topic
abbrev pub StandsLast : List (List KeptTopic) → Trees → Trees → Type 0
StandsLast stores old db = (text : List ℕ) → IsStoredLast text (last_stored text stores) old db

-- After any stores and deletions that answered `Ok`, and while one more is under way or has failed: whatever a crash leaves, it
-- is of all topics what was stored last of them, or of all what it is with that one store more. What `Keeper::store` and
-- `Keeper::delete` say of one of theirs (`rows`, `shown`, `left`), and `Keeper::rests` between two, is what is taken for
-- granted here.
abbrev pub CrashesCompose : Type 0
CrashesCompose =
    (stores : List (List KeptTopic)) (under_way : List KeptTopic) (old now left : Trees)
    → AllDone stores old now
    → (left ≡ now) ⊎ StoresAll under_way now left
    → StandsLast stores old left ⊎ StandsLast (stores ++ under_way ∷ []) old left
