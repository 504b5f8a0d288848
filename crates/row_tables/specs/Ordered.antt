-- The order in which rows are read.
use Rattle.std.specs.Prelude.{ℕ, List, take, IsSortedByKey}
use Rattle.sqlite.specs.Order.{Row, row_cmp}

-- the rows stand in the order of their first columns, so many of them
abbrev pub AreSortedBy : ℕ → List Row → Type 0
AreSortedBy columns rows = IsSortedByKey (take columns) row_cmp rows
