-- What the table of rows has of a hash.
use Rattle.std.specs.Prelude.{ℕ, true, is_some, Option, ◌≡◌}
use Rattle.std.specs.Ordering.{nat_cmp}
use Rattle.std.specs.BTreeMap as tree
use Rattle.hash_rows.specs.Standing.{Found}
use Rattle.hash_rows.specs.declared.row.Row.{Row}
use Rattle.dispatch_keyed.specs.declared.table.Rows.{Rows}

abbrev pub found_in : ℕ → Option Row → Found
found_in base row = record { row = row; base = base }

-- what is found of the hash
abbrev pub row_at : Rows → ℕ → Found
row_at rows h = found_in rows.base (tree.get nat_cmp rows.rows h)

-- the hash has a row
abbrev pub HasRow : Rows → ℕ → Type 0
HasRow rows h = is_some (row_at rows h).row ≡ true
