-- The rows of runs that go and those that come, side by side.
use Rattle.std.specs.Prelude.{◌≡◌, List, [], ◌∷◌, ⊤}
use Rattle.row_forms.specs.declared.change.AckRow.{AckRow}
use Rattle.row_forms.specs.Places.{number_of}
use Rattle.row_rounds.specs.declared.runs.Side.{Side}
use Rattle.row_rounds.specs.declared.runs.Side.TheVariants.{Gone, New, Both}

-- what a side has of the rows that go
abbrev pub old_of : Side → List AckRow
old_of (Gone old) = old.now ∷ []
old_of (New new) = []
old_of (Both old new) = old.now ∷ []

-- what it has of those that come
abbrev pub new_of : Side → List AckRow
new_of (Gone old) = []
new_of (New new) = new.now ∷ []
new_of (Both old new) = new.now ∷ []

-- two rows in one side are of one subscription, and their runs begin at one place
abbrev pub IsOfOneRun : Side → Type 0
IsOfOneRun (Gone old) = ⊤
IsOfOneRun (New new) = ⊤
IsOfOneRun (Both old new) = (old.now.sub ≡ new.now.sub) × (number_of old.now.first ≡ number_of new.now.first)
