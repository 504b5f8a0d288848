-- What the files of a database, or their absence, say of its tables.
use Rattle.std.proofs.Common.{◌≡◌, ℕ, List, [], inl, inr, None, false, true, sym, subst}
use Rattle.std.specs.List.{AllByRecursion}
use Rattle.std.proofs.Math.Logic.{∥∥₁_elim}
use Rattle.sqlite.specs.Schema.{Schema}
use Rattle.sqlite.specs.Effect.{Database, IsDatabase}
use Rattle.sqlite.specs.Files.{AreFoundIn}
use Rattle.sqlite_wal.specs.Recovery.{Image}
use Rattle.sqlite_pages.specs.PageMap.{PageMap}
use Rattle.sqlite_pool.specs.File.{in_use, version_in}
use Rattle.sqlite_store.specs.declared.catalog.Wanted.{Wanted}
use Rattle.sqlite_store.specs.Listing.{file_trees, all_shapes, all_reals, IsOurs}
use Rattle.sqlite_store.specs.Listed.{catalog_rows, is_listed}
use Rattle.sqlite_store.proofs.ListingLemmas.{all_ordered}
use Rattle.sqlite_trees.specs.Props.{IsOrdered-prop}
use Rattle.sqlite_trees.specs.View.{View, IsShaped, IsOrdered}
use Rattle.sqlite_trees.specs.Objects.{IsListed, catalog_tree}
use Rattle.sqlite_trees.specs.declared.store.Shape.TheVariants.{Table}
use Rattle.row_tables.specs.Ready.{AreKeyed}
use Rattle.row_schema.proofs.ReadingLemmas.{keyed_in, keyed_empty}

-- what a store over these pages shows at first
abbrev view_of : ℕ → List Wanted → PageMap → View
view_of size wanted pages = record {
  trees = file_trees size wanted pages;
  committed = file_trees size wanted pages;
  cursors = λ _. None;
  shape = all_shapes wanted;
  reals = all_reals wanted;
  committed_shape = all_shapes wanted;
  committed_reals = all_reals wanted;
  marks = [];
  is_numbered = true;
  has_sums = false;
  is_open = true;
  is_broken = false;
  is_clean = true;
}

listed_of : (size : ℕ) (wanted : List Wanted) (pages : PageMap) → IsListed (file_trees size wanted pages catalog_tree) (all_shapes wanted) (all_reals wanted)
listed_of size wanted pages = subst (λ rows. IsListed rows (all_shapes wanted) (all_reals wanted)) (sym (catalog_rows size wanted (in_use size pages))) (is_listed wanted)

ordered_of : (size : ℕ) (wanted : List Wanted) (pages : PageMap) → ∥ IsOurs size true wanted pages ∥₁ → IsOrdered (all_shapes wanted) (file_trees size wanted pages)
ordered_of size wanted pages ours = ∥∥₁_elim ours (IsOrdered-prop _ _) (λ o. all_ordered o.file.db (version_in pages))

pub found_keyed : (image : Image) (db : Database) → AreFoundIn image db.trees → IsDatabase db → AreKeyed db
found_keyed image db (inl found) sound =
    let size = found.0 in
    let pages = found.1 in
    let wanted = found.2 in
    keyed_in (view_of size wanted pages) db found.5 sound (listed_of size wanted pages) (ordered_of size wanted pages found.4)
found_keyed image db (inr none) sound = keyed_empty db sound none.1.1

-- where there is no table, none has a rowid twice
pub empty_keyed : (db : Database) → db.schema ≡ record { tables = []; indexes = []; views = [] } → AreKeyed db
empty_keyed db empty = subst (λ (s : Schema). AllByRecursion (λ t. IsShaped Table (db.trees t.tree)) s.tables) (sym empty) tt
