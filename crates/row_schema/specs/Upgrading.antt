-- How a version becomes the next.
use Rattle.std.specs.Prelude.{◌≡◌, ◌≢◌, ◌⊎◌, ℕ, IsTrue}
use Rattle.std.specs.List.{AllByRecursion}
use Rattle.sqlite.specs.Schema.{Schema}
use Rattle.sqlite.specs.Tree.{Trees}
use Rattle.sqlite.specs.Effect.{Database, IsDatabase}
use Rattle.sqlite.specs.State.{State}
use Rattle.sqlite_trees.specs.View.{IsShaped}
use Rattle.sqlite_trees.specs.declared.store.Shape.TheVariants.{Table}
use Rattle.row_forms.specs.Cells.{META}
use Rattle.row_tables.specs.Ready.{IsMarked, IsReady, IsRaised}

-- the mark of a database with these tables is this one now, and all other tables are as they were
pub record IsMarkedAnew (schema : Schema) (to : ℕ) (old new : Database) : Type 0 where
  pub listed : new.schema ≡ schema
  pub sound : IsDatabase new
  pub keyed : IsShaped Table (new.trees META)
  pub mark : IsMarked to new.trees
  pub others : AllByRecursion (λ t. t.tree ≢ META → new.trees t.tree ≡ old.trees t.tree) schema.tables

-- a part of a transaction went well: it was open and runs on, and one mark became another
pub record Marks (schema : Schema) (from to : ℕ) (old new : State) : Type 0 where
  pub running : IsTrue old.in_transaction → IsTrue new.in_transaction
  pub was_open : IsTrue old.is_open
  pub does : old.now.schema ≡ schema → IsMarked from old.now.trees → IsMarkedAnew schema to old.now new.now

-- a part of a transaction went well: it was open and runs on, and a version became the next
pub record Raises (IsVersion : Database → Type 0) (BecomesNext : Database → Database → Type 0) (old new : State) : Type 0 where
  pub running : IsTrue old.in_transaction → IsTrue new.in_transaction
  pub was_open : IsTrue old.is_open
  pub does : IsVersion old.now → BecomesNext old.now new.now

-- what a crash may leave of an earlier version: a later one that it becomes
abbrev pub MayBecome : State → Trees → Type 0
MayBecome old db = IsTrue old.is_open × ((schema : Schema) × IsRaised old.now (record { schema = schema; trees = db }))

-- the database stays as it was, and a crash leaves no more than before
pub record Remains (old new : State) : Type 0 where
  pub was_open : IsTrue new.is_open → IsTrue old.is_open
  pub same : IsTrue new.is_open → new.now ≡ old.now
  pub left : (db : Trees) → new.may_leave db → old.may_leave db

-- an earlier version became the last one, that is committed, and a crash leaves exactly that
pub record Becomes (old new : State) : Type 0 where
  pub is_open : IsTrue new.is_open
  pub is : IsRaised old.now new.now
  pub ready : IsReady new.now
  pub committed : new.committed ≡ new.now
  pub left : (db : Trees) → new.may_leave db → db ≡ new.now.trees

-- the connection was open, and its database is of the last version: it was before, or it was raised to that
abbrev pub IsUpgraded : State → State → Type 0
IsUpgraded old new = IsTrue old.is_open × ((IsReady old.now × Remains old new) ⊎ Becomes old new)
