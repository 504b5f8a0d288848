-- What a store that was not made comes to.
use Rattle.std.specs.Prelude.{⊤}
use Rattle.std.specs.declared.result.Result.{Result}
use Rattle.std.specs.declared.result.Result.TheVariants.{Err}
use Rattle.row_store.specs.declared.unstored.Unmade.{Unmade}
use Rattle.row_store.specs.declared.unstored.Unmade.TheVariants.{Unstored as NotStored}
use Rattle.row_store.specs.declared.unstored.Unstored.{Unstored}
use Rattle.row_store.specs.declared.unstored.Unstored.TheVariants.{Failed}

-- the store failed, or must not be
abbrev pub HasFailed : {A : Type 0} → Result A Unstored → Type 0
HasFailed (Err (Failed failed)) = ⊤
HasFailed result = ⊥

-- and so a round of a topic
abbrev pub RoundFailed : {A : Type 0} → Result A Unmade → Type 0
RoundFailed (Err (NotStored (Failed failed))) = ⊤
RoundFailed result = ⊥
