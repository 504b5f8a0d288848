-- What the table keeps, and what it is seen as.
use Rattle.std.specs.Prelude.{ℕ, List, [], ◌∷◌, Option}
use Rattle.std.specs.Map.{lookup}
use Rattle.std.specs.BTreeMap.{is_at}
use Rattle.std.specs.Ordering.{on}
use Rattle.std.specs.FinMap as map_of
use Rattle.std.specs.declared.cmp.Ordering.{Ordering}
use Rattle.position_core.specs.Name.{name_order}
use Rattle.dedup_core.specs.declared.name_key.NameKey.{NameKey}
use Rattle.dedup_core.specs.declared.table.LastNumber.{LastNumber}
use Rattle.dedup_core.specs.Sequences.{Numbers}

-- keys stand in the order of their names
abbrev pub key_order : NameKey → NameKey → Ordering
key_order = on (λ key. key.name) name_order

-- the number that is kept of a name
abbrev pub number_at : List (NameKey × LastNumber) → List ℕ → Option LastNumber
number_at entries name = lookup (is_at (λ key. name_order name key.name)) entries

abbrev pub numbers_in : List (NameKey × LastNumber) → Numbers
numbers_in [] = map_of.empty
numbers_in (e ∷ es) = map_of.insert (numbers_in es) e.0.name e.1
