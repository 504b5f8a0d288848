-- What a part of the making of the tables does.
use Rattle.std.specs.Prelude.{◌≡◌, List, [], ℕ, false, Ok, IsTrue}
use Rattle.std.specs.List.{AllByRecursion}
use Rattle.sqlite.specs.Schema.{Schema}
use Rattle.sqlite.specs.Table.{Table}
use Rattle.sqlite.specs.Tree.{Trees}
use Rattle.sqlite.specs.Effect.{Database, IsDatabase}
use Rattle.sqlite.specs.Command.TheVariants.{CreateTable}
use Rattle.sqlite.specs.Compile.{table_defined_by}
use Rattle.sqlite.specs.Change.{created, next_tree}
use Rattle.sqlite.specs.Does.{lacks_sequence}
use Rattle.sqlite.specs.Listing.{understood}
use Rattle.sqlite.specs.State.{State}
use Rattle.sqlite.proofs.Callers.{IsPlain, command_of, statement_of}
use Rattle.row_tables.specs.Ready.{IsBlank}

-- the schema is this, and no table has a row
pub record IsEmpty (schema : Schema) (db : Database) : Type 0 where
  pub listed : db.schema ≡ schema
  pub rows : AllByRecursion (λ t. db.trees t.tree ≡ []) schema.tables

-- a part of a transaction went well: it runs on, and the empty database of one schema became that of another
pub record Makes (before after : Schema) (old new : State) : Type 0 where
  pub running : IsTrue old.in_transaction → IsTrue new.in_transaction
  pub does : IsEmpty before old.now → IsEmpty after new.now

-- a part of a transaction went well: it runs on, and the empty database became one of version 3
pub record Fills (before : Schema) (old new : State) : Type 0 where
  pub running : IsTrue old.in_transaction → IsTrue new.in_transaction
  pub does : IsEmpty before old.now → IsBlank new.now

-- the rows of all these tables stay
abbrev pub KeepsTables : Schema → Trees → Trees → Type 0
KeepsTables schema old new = AllByRecursion (λ t. new t.tree ≡ old t.tree) schema.tables

-- a database has one table more than the schema before, with no row, and all others as they were
pub record Grows (before after : Schema) (old new : Database) : Type 0 where
  pub listed : new.schema ≡ after
  pub sound : IsDatabase new
  pub empty : new.trees (next_tree before) ≡ []
  pub others : KeepsTables before old.trees new.trees

-- a part of a transaction went well: it was open and runs on, and the database of one schema has the table more that leads to another
pub record Extends (before after : Schema) (old new : State) : Type 0 where
  pub running : IsTrue old.in_transaction → IsTrue new.in_transaction
  pub was_open : IsTrue old.is_open
  pub does : old.now.schema ≡ before → Grows before after old.now new.now

-- the text is a CREATE that leads from one schema to another
pub record Leads (sql : List ℕ) (before after : Schema) : Type 0 where
  pub table : Table
  pub plain : IsPlain (understood before sql)
  pub command : command_of (understood before sql) ≡ CreateTable
  pub text : statement_of sql (understood before sql) ≡ sql
  pub defined : table_defined_by sql ≡ Ok table
  pub is : created before table ≡ after
  pub uncounted : lacks_sequence after ≡ false
