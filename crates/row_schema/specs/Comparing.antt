-- What the comparison of a schema tests of a table.
use Rattle.std.specs.Prelude.{◌≡◌, List, [], ◌∷◌, ℕ, false, None, Some}
use Rattle.sqlite.specs.Table.{Table}
use Rattle.sqlite_value.specs.Keys.{plain}

-- the table has no rule of rows, no reference and no default that reads the time
pub record IsBare (table : Table) : Type 0 where
  pub checks : table.checks ≡ []
  pub references : table.references ≡ []
  pub computed : table.computed ≡ []
  pub stamps : table.stamps ≡ record { places = []; terms = []; formats = [] }
  pub uncounted : table.is_counted ≡ false

-- the columns at these places are its only key, which is no rowid
pub record IsKeyed (key : List ℕ) (table : Table) : Type 0 where
  pub key_is : table.key ≡ None
  pub primary : table.primary ≡ key
  pub uniques : table.uniques ≡ key ∷ []
  pub orders : table.orders ≡ plain ∷ []

-- the first column is its only key, and it is the rowid
pub record IsByRowid (table : Table) : Type 0 where
  pub key_is : table.key ≡ Some 0
  pub primary : table.primary ≡ 0 ∷ []
  pub uniques : table.uniques ≡ []
  pub orders : table.orders ≡ []
