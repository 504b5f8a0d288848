-- The messages of a topic in pieces, by their places.
use Rattle.std.specs.Prelude.{ℕ, Bool, false, List, [], ◌∷◌, ◌&&◌, not, pos, map, filter, IsPermutation}
use Rattle.std.specs.List.{list_any}
use Rattle.std.specs.Ordering.{is_lt}
use Rattle.sqlite.specs.declared.types.Value.TheVariants.{Int, Text as Words}
use Rattle.sqlite.specs.Order.{Row, column, value_cmp}
use Rattle.sqlite.specs.Tree.{Trees}
use Rattle.row_forms.specs.Cells.{ENTRY, bodies, is_below, of_topic}

-- it is from one place on and below another
abbrev pub is_within : ℕ → ℕ → Row → Bool
is_within from end row = not (is_below from row) && is_below end row

-- the rows of all messages of the topic
abbrev pub messages_of : List ℕ → Trees → List Row
messages_of topic db = of_topic topic (bodies ENTRY (db ENTRY))

-- the rows are those of the messages from one place on and below another, each shown without its first column
abbrev pub ShowsWithin : List ℕ → ℕ → ℕ → List Row → Trees → Type 0
ShowsWithin topic from end rows db = IsPermutation (map (λ (r : Row). Words topic ∷ r) rows) (filter (is_within from end) (messages_of topic db))

-- the first row that is shown begins with a value below this number, as NULL does
abbrev pub first_is_below : ℕ → List Row → Bool
first_is_below end [] = false
first_is_below end (row ∷ rows) = is_lt (value_cmp (column row 0) (Int (pos end)))

-- a message of the topic has a place below this one
abbrev pub has_below : List ℕ → ℕ → Trees → Bool
has_below topic end db = list_any (is_below end) (messages_of topic db)

-- a message of the topic has this place, or one after it
abbrev pub has_from : List ℕ → ℕ → Trees → Bool
has_from topic end db = list_any (λ row. not (is_below end row)) (messages_of topic db)

-- a message of the topic has no place from the one on and below the other
abbrev pub has_others : List ℕ → ℕ → ℕ → Trees → Bool
has_others topic from end db = list_any (λ row. not (is_within from end row)) (messages_of topic db)
