-- What a part of a transaction makes of the tables.
use Rattle.std.specs.Prelude.{◌≡◌, ◌≢◌, ◌++◌, ℕ, List, ◌∷◌, map, filter, not, ◌&&◌, IsTrue, IsPermutation}
use Rattle.std.specs.List.{AllByRecursion}
use Rattle.sqlite.specs.declared.types.Value.TheVariants.{Text as Words}
use Rattle.sqlite.specs.Order.{Row}
use Rattle.sqlite.specs.Tree.{Trees}
use Rattle.sqlite.specs.State.{State}
use Rattle.row_forms.specs.Schema.{schema_9}
use Rattle.row_forms.specs.Cells.{ENTRY, bodies, but_topic, is_of, is_placed_below}
use Rattle.row_forms.specs.Standing.{HasIn, SameIn}
use Rattle.row_tables.specs.Ready.{IsReady}

-- a part of a transaction went well: it runs on, nothing was committed, and the tables changed so
pub record Goes (P : Trees → Trees → Type 0) (old new : State) : Type 0 where
  pub running : IsTrue old.in_transaction → IsTrue new.in_transaction
  pub shown : IsTrue old.is_open → IsTrue new.is_open
  pub was_shown : IsTrue new.is_open → IsTrue old.is_open
  pub committed : IsTrue old.in_transaction → new.committed ≡ old.committed
  pub does : IsReady old.now → IsReady new.now × P old.now.trees new.now.trees

-- all tables but the one in this tree are as they were
abbrev pub SpareOthers : ℕ → Trees → Trees → Type 0
SpareOthers tree old new = AllByRecursion (λ t. t.tree ≢ tree → new t.tree ≡ old t.tree) schema_9.tables

-- the rows of a topic leave one table
pub record Clears (tree : ℕ) (topic : List ℕ) (old new : Trees) : Type 0 where
  pub rows : bodies tree (new tree) ≡ but_topic topic (bodies tree (old tree))
  pub others : SpareOthers tree old new

-- the topic's messages whose places are below this one leave
pub record Cuts (topic : List ℕ) (end : ℕ) (old new : Trees) : Type 0 where
  pub rows : bodies ENTRY (new ENTRY) ≡ filter (λ r. not (is_of topic r && is_placed_below end r)) (bodies ENTRY (old ENTRY))
  pub others : SpareOthers ENTRY old new

-- rows come into one table
pub record Adds (tree : ℕ) (news : List Row) (old new : Trees) : Type 0 where
  pub rows : IsPermutation (news ++ bodies tree (old tree)) (bodies tree (new tree))
  pub others : SpareOthers tree old new

-- rows go from one table, where they stood: the others stay
pub record Takes (tree : ℕ) (gone : List Row) (old new : Trees) : Type 0 where
  pub rows : (stay : List Row) → IsPermutation (gone ++ stay) (bodies tree (old tree)) → IsPermutation stay (bodies tree (new tree))
  pub others : SpareOthers tree old new

-- rows go from one table, where they stood, and others come: the rest stays
pub record Swaps (tree : ℕ) (gone news : List Row) (old new : Trees) : Type 0 where
  pub rows : (stay : List Row) → IsPermutation (gone ++ stay) (bodies tree (old tree)) → IsPermutation (news ++ stay) (bodies tree (new tree))
  pub others : SpareOthers tree old new

-- the rows of a topic in one table are these; those of other topics and of other tables are as they were
pub record Sets (tree : ℕ) (topic : List ℕ) (news : List Row) (old new : Trees) : Type 0 where
  pub own : HasIn tree topic news new
  pub other : (name : List ℕ) → name ≢ topic → SameIn tree name old new
  pub spare : SpareOthers tree old new

-- nothing changed
abbrev pub Stays : Trees → Trees → Type 0
Stays old new = new ≡ old

-- a whole transaction went well, and it is committed
pub record Saves (P : Trees → Trees → Type 0) (old new : State) : Type 0 where
  pub was_shown : IsTrue old.is_open
  pub shown : IsTrue new.is_open
  pub committed : new.committed ≡ new.now
  pub does : IsReady old.now → IsReady new.now × P old.now.trees new.now.trees

-- the rows of the topic in the table, each shown without its first column
abbrev pub Shows : ℕ → List ℕ → List Row → Trees → Type 0
Shows tree topic rows db = HasIn tree topic (map (λ (r : Row). Words topic ∷ r) rows) db
