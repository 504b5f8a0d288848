-- The rows of a table, as they are read: what stands in its columns, in any order, and of which topic each row is.
use Rattle.std.specs.Prelude.{ℕ, pos, Bool, List, map, filter, not, ◌&&◌, ◌==◌, if◌then◌else◌}
use Rattle.std.specs.List.{range_with_len}
use Rattle.std.specs.Ordering.{is_eq, is_lt}
use Rattle.sqlite.specs.declared.types.Value.TheVariants.{Int, Text as Words}
use Rattle.sqlite.specs.Order.{Row, column, value_cmp}
use Rattle.sqlite.specs.Ops.{is_null}

-- the trees of the tables
abbrev pub META : ℕ
META = 0

abbrev pub TOPIC : ℕ
TOPIC = 1

abbrev pub ENTRY : ℕ
ENTRY = 3

abbrev pub SUB : ℕ
SUB = 5

abbrev pub ACK : ℕ
ACK = 7

abbrev pub DEAD : ℕ
DEAD = 9

abbrev pub REDELIVERY : ℕ
REDELIVERY = 11

abbrev pub AUTHOR : ℕ
AUTHOR = 13

abbrev pub RETENTION : ℕ
RETENTION = 15

-- how many columns the table in this tree has
abbrev pub width : ℕ → ℕ
width tree =
    if tree == META then 2 else if tree == TOPIC then 4 else if tree == ENTRY then 11 else if tree == SUB then 3 else if tree == ACK then 4 else if tree == DEAD then 5 else 4

-- what is read in the columns of a row: a row may lack its last ones
abbrev pub cells : ℕ → Row → Row
cells count r = map (λ at. column r at) (range_with_len 1 count)

-- the rows of the table in a tree, each without its rowid, in any order
abbrev pub bodies : ℕ → List Row → List Row
bodies tree rows = map (cells (width tree)) rows

-- the first column is this topic
abbrev pub is_of : List ℕ → Row → Bool
is_of topic row = is_eq (value_cmp (column row 0) (Words topic))

abbrev pub of_topic : List ℕ → List Row → List Row
of_topic topic rows = filter (is_of topic) rows

abbrev pub but_topic : List ℕ → List Row → List Row
but_topic topic rows = filter (λ r. not (is_of topic r)) rows

-- the second column, which in the row of a message is its place, is below this number
abbrev pub is_below : ℕ → Row → Bool
is_below end row = is_lt (value_cmp (column row 1) (Int (pos end)))

-- the row of a message has a place, which is below this one: NULL is no place
abbrev pub is_placed_below : ℕ → Row → Bool
is_placed_below end row = not (is_null (column row 1)) && is_below end row

-- the rows of messages, without those whose places are below this one
abbrev pub not_below : ℕ → List Row → List Row
not_below end rows = filter (λ r. not (is_placed_below end r)) rows
