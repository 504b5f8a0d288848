-- Whether a database has the tables of a version, and how one version becomes the next.
use Rattle.std.specs.Prelude.{◌≡◌, ◌⊎◌, ℕ, List, [], ◌∷◌, pos, map}
use Rattle.std.specs.List.{AllByRecursion}
use Rattle.sqlite.specs.declared.types.Value.TheVariants.{Int}
use Rattle.sqlite.specs.Order.{Row, column}
use Rattle.sqlite.specs.Schema.{Schema}
use Rattle.sqlite.specs.Tree.{Trees}
use Rattle.sqlite.specs.Effect.{Database, IsDatabase}
use Rattle.sqlite_trees.specs.View.{IsShaped}
use Rattle.sqlite_trees.specs.declared.store.Shape.TheVariants as shape
use Rattle.row_forms.specs.Schema.{schema_6, schema_7, schema_9}
use Rattle.row_forms.specs.Cells.{META, TOPIC, ENTRY, SUB, ACK, DEAD, REDELIVERY, AUTHOR, RETENTION}

-- the id and the version in each row of the first table, whose id is the rowid
abbrev pub versions : List Row → List Row
versions rows = map (λ r. column r 0 ∷ column r 2 ∷ []) rows

-- its only row has the id 1 and this version
abbrev pub IsMarked : ℕ → Trees → Type 0
IsMarked version db = versions (db META) ≡ (Int (pos 1) ∷ Int (pos version) ∷ []) ∷ []

-- in each of its tables no rowid comes twice
abbrev pub AreKeyed : Database → Type 0
AreKeyed db = AllByRecursion (λ t. IsShaped shape.Table (db.trees t.tree)) db.schema.tables

-- the tables of this schema are there, and they are marked as this version
pub record IsOf (schema : Schema) (version : ℕ) (db : Database) : Type 0 where
  pub schema_is : db.schema ≡ schema
  pub keyed : AreKeyed db
  pub version_is : IsMarked version db.trees

-- the six tables are there, of version 1
abbrev pub IsVersion1 : Database → Type 0
IsVersion1 = IsOf schema_6 1

-- the seven tables are there, of version 2
abbrev pub IsVersion2 : Database → Type 0
IsVersion2 = IsOf schema_7 2

-- the nine tables are there, of version 3
abbrev pub IsReady : Database → Type 0
IsReady = IsOf schema_9 3

-- the nine tables are there, of version 3, and no topic has rows
pub record IsBlank (db : Database) : Type 0 where
  pub ready : IsReady db
  pub sound : IsDatabase db
  pub topics : db.trees TOPIC ≡ []
  pub entries : db.trees ENTRY ≡ []
  pub subs : db.trees SUB ≡ []
  pub acks : db.trees ACK ≡ []
  pub deads : db.trees DEAD ≡ []
  pub counts : db.trees REDELIVERY ≡ []
  pub authors : db.trees AUTHOR ≡ []
  pub retentions : db.trees RETENTION ≡ []

-- version 1 became version 2: all rows of topics stay, and the new table has none
pub record BecomesVersion2 (old new : Database) : Type 0 where
  pub was : IsVersion1 old
  pub is : IsVersion2 new
  pub sound : IsDatabase new
  pub topics : new.trees TOPIC ≡ old.trees TOPIC
  pub entries : new.trees ENTRY ≡ old.trees ENTRY
  pub subs : new.trees SUB ≡ old.trees SUB
  pub acks : new.trees ACK ≡ old.trees ACK
  pub deads : new.trees DEAD ≡ old.trees DEAD
  pub counts : new.trees REDELIVERY ≡ []

-- version 2 became version 3: all rows of topics stay, and the new tables have none
pub record BecomesVersion3 (old new : Database) : Type 0 where
  pub was : IsVersion2 old
  pub is : IsReady new
  pub sound : IsDatabase new
  pub topics : new.trees TOPIC ≡ old.trees TOPIC
  pub entries : new.trees ENTRY ≡ old.trees ENTRY
  pub subs : new.trees SUB ≡ old.trees SUB
  pub acks : new.trees ACK ≡ old.trees ACK
  pub deads : new.trees DEAD ≡ old.trees DEAD
  pub counts : new.trees REDELIVERY ≡ old.trees REDELIVERY
  pub authors : new.trees AUTHOR ≡ []
  pub retentions : new.trees RETENTION ≡ []

-- an earlier version became a later one, by one step or by both
abbrev pub IsRaised : Database → Database → Type 0
IsRaised old new = BecomesVersion2 old new ⊎ (BecomesVersion3 old new ⊎ ((mid : Database) × BecomesVersion2 old mid × BecomesVersion3 mid new))
