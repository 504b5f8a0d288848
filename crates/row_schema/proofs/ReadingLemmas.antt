-- What the laws of a store say of the tables.
use Rattle.std.proofs.Common.{◌≡◌, List, [], ◌∷◌, filter, inl, inr, false, IsTrue, refl, sym, subst, ◌∙◌}
use Rattle.std.specs.List.{AllByRecursion, AllZip}
use Rattle.std.proofs.lemmas.Bool.{cases_Bool}
use Rattle.sqlite.specs.Order.{Row}
use Rattle.sqlite.specs.Table.{Table as SomeTable}
use Rattle.sqlite.specs.Tree.{Trees}
use Rattle.sqlite.specs.Effect.{Database, IsDatabase}
use Rattle.sqlite.specs.Steps.{IsFresh}
use Rattle.sqlite_trees.specs.View.{View, IsClean, IsShaped, IsOrdered, IsRolledBack}
use Rattle.sqlite_trees.specs.Objects.{IsListed, catalog_tree}
use Rattle.sqlite_trees.specs.declared.store.Shape.TheVariants.{Table}
use Rattle.sqlite_trees.proofs.ListLemmas.{all_weaker}
use Rattle.sqlite_catalog.specs.Listing.{AreListed, IsTableRow, is_table_row, Lists}
use Rattle.sqlite_catalog.proofs.ReadLemmas.{lists_once}
use Rattle.sqlite_catalog.proofs.LayoutLemmas.{laid_out, objects_rise}
use Rattle.row_tables.specs.Ready.{AreKeyed}

pub keyed_in : (v : View) (db : Database) → db.trees ≡ v.trees → IsDatabase db → IsListed (v.trees catalog_tree) v.shape v.reals → IsOrdered v.shape v.trees → AreKeyed db
keyed_in v db same sound listed ordered =
    let laid = laid_out listed (objects_rise v listed ordered) (subst (λ (t : Trees). AreListed (t catalog_tree) db.schema) same sound.lists.listed) in
    all_weaker (λ t. v.shape t.tree ≡ Table) (λ t. IsShaped Table (db.trees t.tree))
    (λ t shape. subst (λ (d : Trees). IsShaped Table (d t.tree)) (sym same) (subst (λ s. IsShaped s (v.trees t.tree)) shape (ordered t.tree))) db.schema.tables laid.tables

none_listed : (R : Row → SomeTable → Type 0) (P : SomeTable → Type 0) (tables : List SomeTable) → AllZip R [] tables → AllByRecursion P tables
none_listed R P [] none = tt
none_listed R P (t ∷ tables) none = absurd none

-- where nothing is listed, there is no table
pub keyed_empty : (db : Database) → IsDatabase db → db.trees catalog_tree ≡ [] → AreKeyed db
keyed_empty db sound empty = none_listed IsTableRow _ db.schema.tables (subst (λ rows. AllZip IsTableRow (filter is_table_row rows) db.schema.tables) empty sound.lists.listed.tables)

open_if : (v : View) → v.is_broken ≡ false → (v.is_open ≡ false → IsTrue v.is_broken) → IsTrue v.is_open
open_if v sound shut = elim (cases_Bool v.is_open) [ inl e ↦ subst IsTrue (sym e) refl | inr e ↦ absurd (let broken : IsTrue v.is_broken = shut e in cc) ]

pub fresh_from : (old v : View) → IsRolledBack old v → IsClean v → v.is_broken ≡ false → (v.is_open ≡ false → IsTrue v.is_broken) → IsTrue v.is_numbered → IsFresh v
fresh_from old v u clean sound shut numbered =
    let open_is = open_if v sound shut in
    let k = u.kept clean in
    record { sound = sound; numbered = numbered; clean = (u.undone open_is).0 ∙ sym (k.committed open_is); unmarked = k.marks open_is }

-- what was committed is what stands after all else was undone
pub committed_from : (old v : View) → IsRolledBack old v → v.is_broken ≡ false → (v.is_open ≡ false → IsTrue v.is_broken) → v.trees ≡ old.committed
committed_from old v u sound shut = (u.undone (open_if v sound shut)).0

pub was_open_from : (old v : View) → IsRolledBack old v → IsClean v → v.is_broken ≡ false → (v.is_open ≡ false → IsTrue v.is_broken) → IsTrue old.is_open
was_open_from old v u clean sound shut = (u.kept clean).was_open (open_if v sound shut)

-- two databases with the same rows have one schema
pub one_schema : (a b : Database) → a.trees ≡ b.trees → IsDatabase a → IsDatabase b → a.schema ≡ b.schema
one_schema a b same p q = lists_once (b.trees catalog_tree) a.schema b.schema (subst (λ (t : Trees). Lists (t catalog_tree) a.schema) same p.lists) q.lists
