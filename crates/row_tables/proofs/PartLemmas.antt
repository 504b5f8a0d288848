-- What the statements of a round do, inside its transaction.
use Rattle.std.proofs.Common.{◌≡◌, ◌≢◌, inl, inr, ℕ, ◌/◌, Bool, true, false, not, pos, ℤ, List, [], ◌∷◌, ◌++◌, length, map, filter, slice_get, None, Some, Ok, Err, Result, IsTrue, refl, sym, ap, subst, ◌∙◌, arith, ◌<◌, ◌^◌, to_z, of_z, w64}
use Rattle.std.specs.Prelude.{unwrap_or}
use Rattle.std.specs.List.Sorted.{IsPermutation}
use Rattle.std.proofs.lemmas.List.Sorted.{IsPermutation-map, IsPermutation-trans, IsPermutation-cons, length_permutation}
use Rattle.std.proofs.lemmas.Bool.{cases_eq, cases_Bool}
use Rattle.std.proofs.lemmas.Int.{to_z_pos}
use Rattle.sqlite.specs.declared.error.Error.{Error}
use Rattle.sqlite.specs.declared.types.Value.{Value}
use Rattle.sqlite.specs.declared.types.Value.TheVariants.{Null, Int, Text}
use Rattle.sqlite.specs.Order.{Row}
use Rattle.sqlite.specs.Tree.{Trees, put_row, rowid}
use Rattle.sqlite.specs.Term.{Term, col, eval_all}
use Rattle.sqlite.specs.Program.{overlay}
use Rattle.sqlite.specs.Cast.{cast, cast_all}
use Rattle.sqlite.specs.Kind.TheVariants.{Integer}
use Rattle.sqlite.specs.Schema.{Schema}
use Rattle.sqlite.specs.Effect.{Database, value_rows}
use Rattle.sqlite.specs.Source.TheVariants.{Values}
use Rattle.sqlite.specs.Command.TheVariants.{Insert, Delete, Update}
use Rattle.sqlite_trees.specs.View.{IsShaped, is_int}
use Rattle.sqlite_trees.specs.declared.store.Shape.TheVariants.{Table}
use Rattle.sqlite_trees.proofs.TreeLemmas.{IsShaped-filter, IsShaped-put_row}
use Rattle.sqlite_trees.proofs.ListLemmas.{all_both, IsPermutation-filter, filter-map}
use Rattle.sqlite_rules.specs.Action.{works}
use Rattle.sqlite_schema.specs.declared.schema.Column.{Column}
use Rattle.sqlite.specs.declared.run.Mode.{Mode}
use Rattle.sqlite.specs.Does.{Does}
use Rattle.sqlite.specs.Edit.{id_in, is_taken, next_rowid, without_all}
use Rattle.sqlite_rules.specs.Calls.{ids_of}
use Rattle.sqlite.specs.Listing.{understood}
use Rattle.sqlite.specs.State.{State, mode_of, ExecutesInside}
use Rattle.sqlite.proofs.Callers.{IsPlain, command_of, statement_of, runs_as, one_permutation}
use Rattle.sqlite_rules.proofs.TableLemmas.{int_is}
use Rattle.sqlite_value.specs.Keys.{plain as plain_order}
use Rattle.row_forms.specs.Schema.{schema_9, table_of}
use Rattle.row_forms.specs.Cells.{META, width, cells, bodies}
use Rattle.row_tables.specs.Ready.{AreKeyed, IsMarked}
use Rattle.row_tables.specs.Goes.{Goes, SpareOthers, Clears, Adds, Takes, Swaps}
use Rattle.row_tables.proofs.Texts.{alone, matching, equals}
use Rattle.row_tables.proofs.TableLemmas.{put_adds, without_is}
use Rattle.row_tables.proofs.StatementLemmas.{cast_int, cast_null, deletes, inserts, updates, leaves, remade, replaces, agrees, IsTest, IsTestBy, but_first}

-- a database with the nine tables and these rows
abbrev nine : Trees → Database
nine db = record { schema = schema_9; trees = db }

-- in a database that has a schema, the tables of the schema are keyed
pub keyed_as : (schema : Schema) (db : Database) → db.schema ≡ schema → AreKeyed db → AreKeyed (record { schema = schema; trees = db.trees })
keyed_as schema db is keyed = subst (λ s. AreKeyed (record { schema = s; trees = db.trees })) is keyed

pub keyed_from : (schema : Schema) (db : Database) → db.schema ≡ schema → AreKeyed (record { schema = schema; trees = db.trees }) → AreKeyed db
keyed_from schema db is keyed = subst (λ s. AreKeyed (record { schema = s; trees = db.trees })) (sym is) keyed

-- each table has an order of rowids, where only this one was written
still_keyed : (tree : ℕ) (old new : Trees) → IsShaped Table (new tree) → AreKeyed (nine old) → SpareOthers tree old new → AreKeyed (nine new)
still_keyed tree old new here were others = all_both (λ t. IsShaped Table (old t.tree)) (λ t. t.tree ≢ tree → new t.tree ≡ old t.tree) (λ t. IsShaped Table (new t.tree))
    (λ t was same. elim (cases_eq t.tree tree) [ inl e ↦ subst (λ n. IsShaped Table (new n)) (sym e) here | inr ne ↦ subst (IsShaped Table) (sym (same ne)) was ]) schema_9.tables were others

without_shaped : (ids : List ℤ) (rows : List Row) → IsShaped Table rows → IsShaped Table (without_all rows ids)
without_shaped ids rows keyed = subst (IsShaped Table) (sym (without_is ids rows)) (IsShaped-filter Table _ _ keyed)

-- where one row passes and the row is of those that pass, it is that one, and what stays is the others
only_one : (row : Row) (p : Row → Bool) (stay rows : List Row) → IsTrue (p row) → length (filter p rows) ≡ 1 → IsPermutation (row ∷ stay) rows → (filter p rows ≡ row ∷ []) × IsPermutation stay (filter (λ b. not (p b)) rows)
only_one row p stay rows mine one same =
    let kept = IsPermutation-filter p (row ∷ stay) rows same in
    let first : filter p (row ∷ stay) ≡ row ∷ filter p stay = rw mine refl in
    let empty : filter p stay ≡ [] = nothing (filter p stay) (omega (arith, length_permutation _ _ kept, ap length first, one)) in
    let left : filter (λ b. not (p b)) (row ∷ stay) ≡ filter (λ b. not (p b)) stay = rw mine refl in (
      one_permutation row (filter p rows) (subst (λ xs. IsPermutation xs (filter p rows)) (first ∙ ap (λ more. row ∷ more) empty) kept),
      subst (λ xs. IsPermutation xs (filter (λ b. not (p b)) rows)) (left ∙ none_pass stay empty) (IsPermutation-filter (λ b. not (p b)) (row ∷ stay) rows same),
    )
  where
    nothing : (xs : List Row) → length xs ≡ 0 → xs ≡ []
    nothing [] h = refl
    nothing (x ∷ xs) h = absurd (omega (arith, h))

    none_pass : (xs : List Row) → filter p xs ≡ [] → filter (λ b. not (p b)) xs ≡ xs
    none_pass [] h = refl
    none_pass (x ∷ xs) h = elim (cases_Bool (p x)) [
      | inl e ↦ absurd (let no : x ∷ filter p xs ≡ [] = rw e at h in cc)
      | inr e ↦ rw e (ap (λ more. x ∷ more) (none_pass xs (rw e at h)))
    ]

-- the one row that passes leaves, and another is put in its place
put_in_place : (cells_of : Row → Row) (p : Row → Bool) (row more found made : Row) (stored after : List Row) → IsTrue (p row) → filter (λ r. p (cells_of r)) stored ≡ found ∷ []
    → is_taken (filter (λ r. not (p (cells_of r))) stored) made ≡ false → after ≡ put_row made (filter (λ r. not (p (cells_of r))) stored) → (cells_of found ≡ row → cells_of made ≡ more)
    → (stay : List Row) → IsPermutation (row ∷ stay) (map cells_of stored) → IsPermutation (more ∷ stay) (map cells_of after)
put_in_place cells_of p row more found made stored after mine one free is makes stay same =
    let rest = map cells_of (filter (λ r. not (p (cells_of r))) stored) in
    let shown : filter p (map cells_of stored) ≡ cells_of found ∷ [] = filter-map p cells_of stored ∙ ap (map cells_of) one in
    let only = only_one row p stay (map cells_of stored) mine (ap length shown) same in
    let left = subst (IsPermutation stay) (filter-map (λ b. not (p b)) cells_of stored) only.1 in
    let put = subst (IsPermutation _) (sym is) (put_adds made (filter (λ r. not (p (cells_of r))) stored) free) in
    let come = subst (λ b. IsPermutation (b ∷ rest) (map cells_of after)) (makes (same_first (sym shown ∙ only.0))) (IsPermutation-map cells_of _ _ put) in
    IsPermutation-trans _ _ _ (IsPermutation-cons more stay rest left) come
  where
    same_first : {x y : Row} → ◌≡◌ {A = List Row} (x ∷ []) (y ∷ []) → x ≡ y
    same_first e = cc

-- the row that is put in the place of the one has its rowid, which a column of whole numbers takes as it is
put_shaped : (p : Row → Bool) (found made : Row) (stored after : List Row) → IsShaped Table stored → filter p stored ≡ found ∷ [] → rowid made ≡ cast Integer (rowid found) → after ≡ put_row made (filter (λ r. not (p r)) stored) → IsShaped Table after
put_shaped p found made stored after keyed one same is =
    let only : IsShaped Table (found ∷ []) = subst (IsShaped Table) one (IsShaped-filter Table p stored keyed) in
    let number : rowid made ≡ Int (id_in (rowid found)) = same ∙ ap (cast Integer) (int_is (rowid found) only.1.0) ∙ cast_int (id_in (rowid found)) in
    subst (IsShaped Table) (sym is) (IsShaped-put_row made (filter (λ r. not (p r)) stored) (subst (λ v. IsTrue (is_int v)) (sym number) refl) (IsShaped-filter Table (λ r. not (p r)) stored keyed))

module _ (at : ℕ) (name : List ℕ) (tree : ℕ) (columns : List Column) (key : List ℕ) (found : slice_get schema_9.tables at ≡ Some (table_of name tree columns key))
    (none : (olds news : List Row) (mode : Mode) → works schema_9 mode.keys 0 tree olds news ≡ [])
    (mine : (db : Trees) → AreKeyed (nine db) → IsShaped Table (db tree))
    (apart : (old new : Trees) → SpareOthers tree old new → new META ≡ old META)
    (seen : (db : Trees) → overlay db [] tree ≡ db tree) where
  -- a DELETE of the rows that pass its tests
  pub deletes_rows : (sql : List ℕ) (tests : List Term) → command_of (understood schema_9 sql) ≡ Delete at (alone (matching tree tests (col 1 0 ∷ []) [])) → IsPlain (understood schema_9 sql)
      → (values : Row) (passes : Row → Bool) → IsTestBy tree tests values passes → (old new : State) (count : ℕ) → ExecutesInside 0 sql values old new (Ok count)
      → Goes (λ x y. (bodies tree (y tree) ≡ filter (λ b. not (passes b)) (bodies tree (x tree))) × (count ≡ length (filter passes (bodies tree (x tree)))) × SpareOthers tree x y) old new
  deletes_rows sql tests is plain values passes test old new count h = record {
    running = λ _. subst IsTrue (sym h.1.mode) refl;
    shown = λ _. h.1.is_open;
    was_shown = λ _. h.1.was_open;
    committed = λ _. h.1.committed_is;
    does = λ ready.
        let q = matching tree tests (col 1 0 ∷ []) [] in
        let w = runs_as sql values old new schema_9 ready.schema_is (Delete at (alone q)) is plain count h.0 in
        let text = statement_of sql (understood schema_9 sql) in
        let does = subst (λ s. Does old.step_limit (mode_of old) values (record old.now { schema = s }) text None (Delete at (alone q)) (Ok (w.tally, new.now))) ready.schema_is w.changed in
        let d = deletes schema_9 at name tree columns None key (key ∷ []) (plain_order ∷ []) found none old.step_limit (mode_of old) values old.now.trees text w.tally new.now q does in
        let was = keyed_as schema_9 old.now ready.schema_is ready.keyed in
        let keyed = mine old.now.trees was in
        let left = leaves tree tests values passes old.now.trees (overlay old.now.trees []) d.0 test (seen old.now.trees) keyed d.1 in
        let shaped = subst (IsShaped Table) (sym d.2) (without_shaped (ids_of d.0) (old.now.trees tree) keyed) in (
          record {
            schema_is = d.4;
            keyed = keyed_from schema_9 new.now d.4 (still_keyed tree old.now.trees new.now.trees shaped was d.3);
            version_is = subst (λ rows. IsMarked 3 (λ t. rows)) (sym (apart old.now.trees new.now.trees d.3)) ready.version_is;
          },
          (ap (bodies tree) d.2 ∙ left.0, w.counted ∙ ap (λ o. unwrap_or o 0) d.5 ∙ left.1, d.3),
        );
  }

  pub clears_rows : (sql : List ℕ) → command_of (understood schema_9 sql) ≡ Delete at (alone (matching tree (equals 0 ∷ []) (col 1 0 ∷ []) [])) → IsPlain (understood schema_9 sql)
      → ((topic : List ℕ) → IsTest tree (equals 0 ∷ []) (Text topic ∷ [])) → (topic : List ℕ) (old new : State) (count : ℕ) → ExecutesInside 0 sql (Text topic ∷ []) old new (Ok count) → Goes (Clears tree topic) old new
  clears_rows sql is plain test topic old new count h =
      let d = deletes_rows sql (equals 0 ∷ []) is plain (Text topic ∷ []) (agrees (Text topic ∷ [])) (test topic) old new count h in
      record {
        running = d.running;
        shown = d.shown;
        was_shown = d.was_shown;
        committed = d.committed;
        does = λ ready. let it = d.does ready in (it.0, record { rows = it.1.0 ∙ but_first topic (bodies tree (old.now.trees tree)); others = it.1.2 });
      }

  -- the DELETE of one row took one
  pub takes_row : (sql : List ℕ) (tests : List Term) → command_of (understood schema_9 sql) ≡ Delete at (alone (matching tree tests (col 1 0 ∷ []) [])) → IsPlain (understood schema_9 sql)
      → (row : Row) → IsTest tree tests row → IsTrue (agrees row row) → (old new : State) (count : ℕ) → count ≡ 1 → ExecutesInside 0 sql row old new (Ok count) → Goes (Takes tree (row ∷ [])) old new
  takes_row sql tests is plain row test itself old new count one h =
      let d = deletes_rows sql tests is plain row (agrees row) test old new count h in
      record {
        running = d.running;
        shown = d.shown;
        was_shown = d.was_shown;
        committed = d.committed;
        does = λ ready.
            let it = d.does ready in (
              it.0,
              record {
                rows = λ stay same. subst (IsPermutation stay) (sym it.1.0) (only_one row (agrees row) stay (bodies tree (old.now.trees tree)) itself (sym it.1.1 ∙ one) same).1;
                others = it.1.2;
              },
            );
      }

  -- the UPDATE of one row changed one
  pub swaps_row : (sql : List ℕ) (tests anew : List Term) → command_of (understood schema_9 sql) ≡ Update at (alone (matching tree tests (col 1 0 ∷ col 1 0 ∷ anew) [])) → IsPlain (understood schema_9 sql)
      → (values row more : Row) → IsTestBy tree tests values (agrees row) → IsTrue (agrees row row)
      → ((id : Value) (r : Row) → cells (width tree) r ≡ row → cells (width tree) (id ∷ cast_all columns (eval_all anew (values ∷ r ∷ []))) ≡ more)
      → (old new : State) (count : ℕ) → count ≡ 1 → ExecutesInside 0 sql values old new (Ok count) → Goes (Swaps tree (row ∷ []) (more ∷ [])) old new
  swaps_row sql tests anew is plain values row more test itself makes old new count one h = record {
    running = λ _. subst IsTrue (sym h.1.mode) refl;
    shown = λ _. h.1.is_open;
    was_shown = λ _. h.1.was_open;
    committed = λ _. h.1.committed_is;
    does = λ ready.
        let q = matching tree tests (col 1 0 ∷ col 1 0 ∷ anew) [] in
        let command = Update at (alone q) in
        let w = runs_as sql values old new schema_9 ready.schema_is command is plain count h.0 in
        let text = statement_of sql (understood schema_9 sql) in
        let does = subst (λ s. Does old.step_limit (mode_of old) values (record old.now { schema = s }) text None command (Ok (w.tally, new.now))) ready.schema_is w.changed in
        let d = updates schema_9 at name tree columns None key (key ∷ []) (plain_order ∷ []) found none old.step_limit (mode_of old) values old.now.trees text w.tally new.now q does in
        let was = keyed_as schema_9 old.now ready.schema_is ready.keyed in
        let stored = old.now.trees tree in
        let keyed = mine old.now.trees was in
        let table = table_of name tree columns key in
        let it = replaces tree table tests anew values (agrees row) old.now.trees (overlay old.now.trees []) d.0 (new.now.trees tree) test (seen old.now.trees) keyed d.1 (sym (w.counted ∙ ap (λ o. unwrap_or o 0) d.6) ∙ one) d.2 d.3 in
        let made = remade table anew values it.0 in
        let shaped = put_shaped (λ r. agrees row (cells (width tree) r)) it.0 made stored (new.now.trees tree) keyed it.1 (refl {a = rowid made}) it.3 in (
          record {
            schema_is = d.5;
            keyed = keyed_from schema_9 new.now d.5 (still_keyed tree old.now.trees new.now.trees shaped was d.4);
            version_is = subst (λ rows. IsMarked 3 (λ t. rows)) (sym (apart old.now.trees new.now.trees d.4)) ready.version_is;
          },
          record { rows = put_in_place (cells (width tree)) (agrees row) row more it.0 made stored (new.now.trees tree) itself it.1 it.2 it.3 (makes (rowid made) it.0); others = d.4 },
        );
  }

  pub adds_row : (sql : List ℕ) (terms : List Term) (many : ℕ) → command_of (understood schema_9 sql) ≡ Insert at (Values terms many) → IsPlain (understood schema_9 sql)
      → (values : Row) → value_rows (values ++ []) many (length terms / many) terms ≡ (Null ∷ values) ∷ [] → cast_all columns values ≡ values → ((id : ℤ) → cells (width tree) (Int id ∷ values) ≡ values)
      → (old new : State) (count : ℕ) → ExecutesInside 0 sql values old new (Ok count) → Goes (Adds tree (values ∷ [])) old new
  adds_row sql terms many is plain values are kept read old new count h = record {
    running = λ _. subst IsTrue (sym h.1.mode) refl;
    shown = λ _. h.1.is_open;
    was_shown = λ _. h.1.was_open;
    committed = λ _. h.1.committed_is;
    does = λ ready.
        let command = Insert at (Values terms many) in
        let w = runs_as sql values old new schema_9 ready.schema_is command is plain count h.0 in
        let text = statement_of sql (understood schema_9 sql) in
        let does = subst (λ s. Does old.step_limit (mode_of old) values (record old.now { schema = s }) text None command (Ok (w.tally, new.now))) ready.schema_is w.changed in
        let id = next_rowid (old.now.trees tree) in
        let d = inserts schema_9 at name tree columns None key (key ∷ []) (plain_order ∷ []) found none old.step_limit (mode_of old) values old.now.trees text w.tally new.now terms many (Null ∷ values) (Int id ∷ values) are (rw (cast_null, kept) refl) does in
        let was = keyed_as schema_9 old.now ready.schema_is ready.keyed in
        let keyed = mine old.now.trees was in (
          record {
            schema_is = d.3;
            keyed = keyed_from schema_9 new.now d.3 (still_keyed tree old.now.trees new.now.trees (subst (IsShaped Table) (sym d.0) (IsShaped-put_row _ _ refl keyed)) was d.2);
            version_is = subst (λ rows. IsMarked 3 (λ t. rows)) (sym (apart old.now.trees new.now.trees d.2)) ready.version_is;
          },
          record {
            rows =
                let put = subst (λ rows. IsPermutation ((Int id ∷ values) ∷ old.now.trees tree) rows) (sym d.0) (put_adds _ _ d.1) in
                subst (λ r. IsPermutation (r ∷ bodies tree (old.now.trees tree)) (bodies tree (new.now.trees tree))) (read id) (IsPermutation-map (cells (width tree)) _ _ put);
            others = d.2;
          },
        );
  }

-- a statement that went well was run inside a transaction
pub running_or : (b : Bool) (count : ℕ) (e : Error) {r : Result ℕ Error} {P Q : Type 0} → r ≡ Ok count → (b ≡ false → (r ≡ Err e) × P) → (IsTrue b → Q) → Q
running_or true count e ok ended runs = runs refl
running_or false count e ok ended runs = absurd (let no = (ended refl).0 in cc)

-- a number that was passed as it stands in a machine's word
pub read_back : {n : ℤ} {m : ℕ} → n ≡ pos m → m < 2 ^ 63 → to_z w64 (of_z w64 n) ≡ pos m
read_back {n} {m} is low = ap (λ z. to_z w64 (of_z w64 z)) is ∙ to_z_pos w64 m low

-- a statement of these parameters is one of what they are
pub as_passed : (sql : List ℕ) (values : Row) {params : Row} {old new : State} (count : ℕ) → ExecutesInside 0 sql params old new (Ok count) → params ≡ values → ExecutesInside 0 sql values old new (Ok count)
as_passed sql values {params} {old} {new} count runs is = subst (λ (p : Row). ExecutesInside 0 sql p old new (Ok count)) is runs
