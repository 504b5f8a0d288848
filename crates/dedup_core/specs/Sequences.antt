-- The last sequence numbers of all names, against the producers of all messages that a topic ever had.
use Rattle.std.specs.Prelude.{◌≡◌, ℕ, List, ℤ, Option, refl}
use Rattle.std.specs.List.{find}
use Rattle.std.specs.Int.{int_max}
use Rattle.std.specs.Option.{option_map, option_map_or}
use Rattle.std.specs.FinMap as map_of
use Rattle.std.specs.Coded.{Coded, code_by, coded_ℕ, coded_ℤ, coded_list, coded×}
use Rattle.position_core.specs.Name.{name_order}
use Rattle.delivery_machine.specs.State.{Author}
use Rattle.delivery_machine.specs.Trimming.{is_author}
use Rattle.dedup_core.specs.declared.table.LastNumber.{LastNumber}

-- the last number of each name that has messages
abbrev pub Numbers : Type 0
Numbers = map_of.FinMap name_order LastNumber

abbrev pub coded_last : Coded LastNumber
coded_last = code_by (ℤ × ℕ) (coded× coded_ℤ coded_ℕ) (λ n. (n.sequence, n.index)) (λ p. record { sequence = p.0; index = p.1 }) (λ _. refl)

abbrev pub coded_numbers : Coded Numbers
coded_numbers = map_of.code (coded_list coded_ℕ) coded_last

abbrev pub last_of : Author → LastNumber
last_of a = record { sequence = a.sequence; index = a.index }

-- what the producers have of the name
abbrev pub found : List ℕ → List Author → Option LastNumber
found name authors = option_map last_of (find (is_author name) authors)

-- each name has what the producers have of it
abbrev pub AgreesWith : List Author → Numbers → Type 0
AgreesWith authors numbers = (name : List ℕ) → map_of.get numbers name ≡ found name authors

-- with one message more of the name
abbrev pub offered : List ℕ → ℤ → ℕ → Numbers → Numbers
offered name sequence index numbers =
    map_of.insert numbers name (record { sequence = option_map_or (λ n. int_max n.sequence sequence) (map_of.get numbers name) sequence; index = index })
