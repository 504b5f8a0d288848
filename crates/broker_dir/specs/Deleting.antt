-- What a deletion stores.
use Rattle.std.specs.Prelude.{◌≡◌, [], ◌∷◌}
use Rattle.sqlite.specs.Tree.{Trees}
use Rattle.delivery_machine.specs.State.{State}
use Rattle.delivery_machine.specs.Snapshot.{snapshot_of}
use Rattle.delivery_machine.specs.Places.{KeptTopic, snapshot_in}
use Rattle.topic_lives.specs.Deleting.{emptied}
use Rattle.row_store.specs.Keeping.{StoresAll}

-- the rows of the topic are those of what is left of it, and those of all others are as they were
abbrev pub StoresLeft : State → Trees → Trees → Type 0
StoresLeft s old new = (kept : KeptTopic) × (snapshot_in kept ≡ emptied (snapshot_of s)) × StoresAll (kept ∷ []) old new
