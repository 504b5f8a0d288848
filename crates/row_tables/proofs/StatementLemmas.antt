-- What INSERT of one row, DELETE and UPDATE do to a table with no foreign key, and what SELECT shows of it.
use Rattle.std.proofs.Common.{◌≡◌, ◌≢◌, ◌⊎◌, inl, inr, negsuc, ℕ, suc, ◌+◌, ◌/◌, ℤ, List, [], ◌∷◌, ◌++◌, length, drop, map, filter, flat_map, cond, slice_get, Bool, true, false, not, Option, Some, None, Ok, Err, Result, refl, sym, ap, subst, ◌∙◌, arith}
use Rattle.std.specs.Prelude.{◌&&◌}
use Rattle.std.specs.List.{AllByRecursion, list_all}
use Rattle.std.specs.List.Sorted.{IsPermutation, IsSorted}
use Rattle.std.proofs.lemmas.Bool.{cases_Bool}
use Rattle.std.proofs.lemmas.List.Sorted.{IsPermutation-map, length_permutation}
use Rattle.std.proofs.lemmas.List.{length-map}
use Rattle.sqlite.specs.Edit.{id_in}
use Rattle.sqlite.specs.declared.types.Value.{Value}
use Rattle.sqlite.specs.declared.types.Value.TheVariants.{Null, Int, Text}
use Rattle.sqlite.specs.Order.{Row, column}
use Rattle.sqlite.specs.Tree.{Trees, rowid, put_row}
use Rattle.sqlite.specs.Term.{Term, lit, col, holds, eval_all}
use Rattle.sqlite.specs.Ops.{unary, binary, is_true}
use Rattle.sqlite_value.specs.declared.keys.Key.{Key}
use Rattle.sqlite_sql.specs.declared.ops.BinaryOp.TheVariants.{Compare}
use Rattle.sqlite_sql.specs.declared.ops.CompareOp.TheVariants.{Eq}
use Rattle.sqlite.specs.Collation.TheVariants.{Binary}
use Rattle.sqlite_trees.proofs.ListLemmas.{filter_same, filter-map, all_of, map-map}
use Rattle.sqlite.specs.Cast.{cast}
use Rattle.sqlite.specs.Kind.TheVariants.{Integer}
use Rattle.sqlite.specs.Query.{Query, Output, output, output_cmp, page, IsAnswerAs, IsSureAnswer}
use Rattle.sqlite.specs.Program.{overlay}
use Rattle.sqlite.specs.Schema.{Schema}
use Rattle.sqlite.specs.Table.{Table}
use Rattle.sqlite_schema.specs.declared.schema.Column.{Column}
use Rattle.sqlite_value.specs.declared.keys.Order.{Order}
use Rattle.sqlite.specs.Source.TheVariants.{Values}
use Rattle.sqlite.specs.Command.{Command}
use Rattle.sqlite.specs.Command.TheVariants.{Insert, Delete, Update}
use Rattle.sqlite.specs.Edit.{taken_by, are_fresh, put_all, edit_of, numbered, row_at, is_taken, without_all}
use Rattle.sqlite.specs.Cast.{cast_row}
use Rattle.sqlite.specs.Rowids.{Rowids}
use Rattle.sqlite.specs.Rowids.TheVariants.{Given, Chosen}
use Rattle.sqlite_rules.specs.Action.{works}
use Rattle.sqlite_rules.specs.Calls.{ids_of}
use Rattle.sqlite.specs.Effect.{Database, value_rows}
use Rattle.sqlite.specs.Does.{Tally, Does, OnTable, OnRows, WritesRows}
use Rattle.sqlite.specs.Rows.{Written, Task}
use Rattle.sqlite.specs.declared.run.Mode.{Mode}
use Rattle.sqlite.proofs.Callers.{one_step, one_permutation}
use Rattle.row_forms.specs.Schema.{table_of}
use Rattle.row_forms.specs.Cells.{width, cells, bodies, but_topic, is_of}
use Rattle.row_tables.proofs.Texts.{alone, matching, matching_most}
use Rattle.row_tables.proofs.TableLemmas.{AreKeyed, text_test, removed}

-- a part that gave a value did not stop on the way
pub went : {B E R : Type 0} {b : B} {Stops : E → Type 0} → ((stop : E) × Stops stop × (Ok b ≡ Err stop)) ⊎ R → R
went (inl stopped) = absurd (let e = stopped.2 in cc)
went (inr on) = on

pub same_value : {B E : Type 0} {a b : B} → ◌≡◌ {A = Result B E} (Ok a) (Ok b) → a ≡ b
same_value e = cc

either : (b : Bool) (x : Value) → cond b x x ≡ x
either true x = refl
either false x = refl

pub cast_null : cast Integer Null ≡ Null
unfolding unary
cast_null = either _ Null

pub cast_int : (n : ℤ) → cast Integer (Int n) ≡ Int n
unfolding unary
cast_int n = either _ (Int n)

fresh_one : (b : Bool) → (not b && true) ≡ true → b ≡ false
fresh_one true h = cc
fresh_one false h = refl

as_many : (rowids : Rowids) (news rows : List Row) → length (numbered rowids rows news) ≡ length news
as_many rowids [] rows = refl
as_many rowids (r ∷ more) rows = ap suc (as_many rowids more _)

-- a table with no foreign key, no check and no default that reads the time
abbrev pub plain_table : List ℕ → ℕ → List Column → Option ℕ → List ℕ → List (List ℕ) → List Order → Table
plain_table name tree columns key primary uniques orders = record (table_of name tree columns primary) { key = key; uniques = uniques; orders = orders }

module _ (schema : Schema) (at : ℕ) (name : List ℕ) (tree : ℕ) (columns : List Column) (key : Option ℕ) (primary : List ℕ) (uniques : List (List ℕ)) (orders : List Order)
    (found : slice_get schema.tables at ≡ Some (plain_table name tree columns key primary uniques orders))
    (none : (olds news : List Row) (mode : Mode) → works schema mode.keys 0 tree olds news ≡ [])
    (limit : Option ℕ) (mode : Mode) (params : Row) (db : Trees) (text : List ℕ) (tally : Tally) (after : Database) where
  abbrev task : Task
  task = record { limit = limit; keys = mode.keys; schema = schema; table = plain_table name tree columns key primary uniques orders; params = params }

  abbrev was : Database
  was = record { schema = schema; trees = db }

  on_rows : (command : Command) → OnTable limit mode params was at (λ task. OnRows task mode None command db) (Ok (tally, after))
      → (w : Written) × WritesRows task db command (Ok w) × (after ≡ record { schema = schema; trees = w.trees }) × (tally.rows ≡ Some (length w.rows))
  on_rows command h =
      let here : OnRows task mode None command db (Ok (tally, after)) = rw found at h in
      let w = went here in
      let shown = went (went w.2).2 in
      let both = same_value shown.2 in
      (w.0, w.1, ap (λ (p : Tally × Database). p.1) both, ap (λ (p : Tally × Database). p.0.rows) both)

  -- the rows that the query shows are taken out, by their rowids, and counted
  pub deletes : (q : Query) → Does limit mode params was text None (Delete at (alone q)) (Ok (tally, after))
      → (rows : List Row) × IsSureAnswer q (overlay db []) params rows × (after.trees tree ≡ without_all (db tree) (ids_of rows))
      × AllByRecursion (λ t. t.tree ≢ tree → after.trees t.tree ≡ db t.tree) schema.tables × (after.schema ≡ schema) × (tally.rows ≡ Some (length rows))
  deletes q h =
      let w = on_rows (Delete at (alone q)) h in
      let given = went w.1 in
      let edit = edit_of db task.table (ids_of given.0) Given 0 [] in
      let written = went given.2 in
      let step = one_step schema mode.keys db written.0 edit (none (taken_by db edit) edit.news mode) written.1 in
      let it = same_value written.2 in
      let trees : after.trees ≡ written.0 = ap (λ (d : Database). d.trees) w.2 ∙ ap (λ (it : Written). it.trees) it in
      let count : length w.0.rows ≡ length given.0 = ap (λ (it : Written). length it.rows) it ∙ length-map (ids_of given.0) (row_at (db tree)) ∙ length-map given.0 (λ r. id_in (rowid r)) in (
        given.0,
        given.1.answer,
        ap (λ (t : Trees). t tree) trees ∙ step.rows,
        subst (λ t. AllByRecursion (λ u. u.tree ≢ tree → t u.tree ≡ db u.tree) schema.tables) (sym trees) step.tables,
        ap (λ (d : Database). d.schema) w.2,
        w.3 ∙ ap Some count,
      )

  -- the rows that the query shows are put in the place of those with their rowids, and counted
  pub updates : (q : Query) → Does limit mode params was text None (Update at (alone q)) (Ok (tally, after))
      → (rows : List Row) × IsSureAnswer q (overlay db []) params rows
      × (are_fresh (without_all (db tree) (ids_of rows)) (edit_of db task.table (ids_of rows) Given 1 rows).news ≡ true)
      × (after.trees tree ≡ put_all (without_all (db tree) (ids_of rows)) (edit_of db task.table (ids_of rows) Given 1 rows).news)
      × AllByRecursion (λ t. t.tree ≢ tree → after.trees t.tree ≡ db t.tree) schema.tables × (after.schema ≡ schema) × (tally.rows ≡ Some (length rows))
  updates q h =
      let w = on_rows (Update at (alone q)) h in
      let given = went w.1 in
      let edit = edit_of db task.table (ids_of given.0) Given 1 given.0 in
      let written = went given.2 in
      let step = one_step schema mode.keys db written.0 edit (none (taken_by db edit) edit.news mode) written.1 in
      let it = same_value written.2 in
      let trees : after.trees ≡ written.0 = ap (λ (d : Database). d.trees) w.2 ∙ ap (λ (it : Written). it.trees) it in
      let count : length w.0.rows ≡ length given.0 = ap (λ (it : Written). length it.rows) it ∙ as_many Given _ _ ∙ length-map given.0 (λ s. cast_row task.table (drop 1 s)) in (
        given.0,
        given.1.answer,
        step.fresh,
        ap (λ (t : Trees). t tree) trees ∙ step.rows,
        subst (λ t. AllByRecursion (λ u. u.tree ≢ tree → t u.tree ≡ db u.tree) schema.tables) (sym trees) step.tables,
        ap (λ (d : Database). d.schema) w.2,
        w.3 ∙ ap Some count,
      )

  -- one row comes in
  pub inserts : (terms : List Term) (many : ℕ) (source new : Row) → value_rows (params ++ []) many (length terms / many) terms ≡ source ∷ []
      → (edit_of db task.table [] Chosen 0 (source ∷ [])).news ≡ new ∷ []
      → Does limit mode params was text None (Insert at (Values terms many)) (Ok (tally, after))
      → (after.trees tree ≡ put_row new (db tree)) × (is_taken (db tree) new ≡ false)
      × AllByRecursion (λ t. t.tree ≢ tree → after.trees t.tree ≡ db t.tree) schema.tables × (after.schema ≡ schema)
  inserts terms many source new are is h =
      let w = on_rows (Insert at (Values terms many)) h in
      let given = went w.1 in
      let counter = went given.2 in
      let written = went counter.2 in
      let counted = went written.2 in
      let edit = edit_of db task.table [] Chosen 0 given.0 in
      let same : given.0 ≡ source ∷ [] = given.1.1 ∙ are in
      let news : edit.news ≡ new ∷ [] = ap (λ rows. (edit_of db task.table [] Chosen 0 rows).news) same ∙ is in
      let step = one_step schema mode.keys db written.0 edit (none (taken_by db edit) edit.news mode) written.1 in
      let trees : after.trees ≡ written.0 = ap (λ (d : Database). d.trees) w.2 ∙ ap (λ (it : Written). it.trees) (same_value counted.2) ∙ same_value counted.1 in (
        ap (λ (t : Trees). t tree) trees ∙ step.rows ∙ ap (put_all (db tree)) news,
        fresh_one (is_taken (db tree) new) (subst (λ rows. are_fresh (db tree) rows ≡ true) news step.fresh),
        subst (λ t. AllByRecursion (λ u. u.tree ≢ tree → t u.tree ≡ db u.tree) schema.tables) (sym trees) step.tables,
        ap (λ (d : Database). d.schema) w.2,
      )

-- ---- the rows that a query finds

-- the first columns of a row without its rowid are these values
abbrev pub agrees_from : ℕ → Row → Row → Bool
agrees_from at [] body = true
agrees_from at (v ∷ values) body = is_true (binary (Compare Eq Binary) (column body at) v) && agrees_from (at + 1) values body

abbrev pub agrees : Row → Row → Bool
agrees values body = agrees_from 0 values body

abbrev pub shows : List Term → List (Term × Key) → Row → Row → Output
shows project order values r = (eval_all (map (λ k. k.0) order) (values ∷ r ∷ []), eval_all project (values ∷ r ∷ []))

flat_passed : {A B : Type 0} (p : A → Bool) (f : A → B) (xs : List A) → flat_map (λ x. cond (p x) (f x ∷ []) []) xs ≡ map f (filter p xs)
flat_passed p f [] = refl
flat_passed p f (x ∷ xs) = elim (cases_Bool (p x)) [
  | inl e ↦ rw (e, flat_passed p f xs)
  | inr e ↦ rw (e, flat_passed p f xs)
]

-- a test of the rows of the table: those pass whose cells do
abbrev pub IsTestBy : ℕ → List Term → Row → (Row → Bool) → Type 0
IsTestBy tree tests values passes = (r : Row) → list_all (holds (values ∷ r ∷ [])) tests ≡ passes (cells (width tree) r)

-- a test of the columns of the table against the parameters
abbrev pub IsTest : ℕ → List Term → Row → Type 0
IsTest tree tests values = IsTestBy tree tests values (agrees values)

module _ (tree : ℕ) (tests project : List Term) (order : List (Term × Key)) (values : Row) (p : Row → Bool) (db : Trees) (rows : List Row) (test : (r : Row) → list_all (holds (values ∷ r ∷ [])) tests ≡ p r) where
  -- the rows that pass a test, which may be of the rowid too
  pub finds_by : (limit : Term) → IsAnswerAs Null (matching_most tree tests project order limit) db values rows
      → (outs : List Output) × IsPermutation (map (shows project order values) (filter p (db tree))) outs
      × (rows ≡ page (matching_most tree tests project order limit) values (map (λ o. o.1) outs)) × IsSorted (output_cmp (matching_most tree tests project order limit)) outs
  finds_by limit a =
      let q = matching_most tree tests project order limit in
      let env = λ (r : Row). values ∷ r ∷ [] in
      let matched : a.staged ≡ map env (filter (λ r. list_all (holds (env r)) tests) (db tree)) = a.grouped ∙ flat_passed (λ r. list_all (holds (env r)) tests) env (db tree) in
      let kept : a.kept ≡ map (output q) (map env (filter (λ r. list_all (holds (env r)) tests) (db tree))) = a.distinct ∙ ap (map (output q)) matched in
      let picked : filter (λ r. list_all (holds (env r)) tests) (db tree) ≡ filter p (db tree) = filter_same _ p (db tree) (all_of _ test (db tree)) in
      let is : a.kept ≡ map (shows project order values) (filter p (db tree)) = kept ∙ map-map (output q) env _ ∙ ap (map (shows project order values)) picked in
      (a.ordered, subst (λ xs. IsPermutation xs a.ordered) is a.same, a.shown, a.sorted)

module _ (tree : ℕ) (tests project : List Term) (order : List (Term × Key)) (values : Row) (passes : Row → Bool) (db : Trees) (rows : List Row) (test : IsTestBy tree tests values passes) where
  pub finds_most : (limit : Term) → IsAnswerAs Null (matching_most tree tests project order limit) db values rows
      → (outs : List Output) × IsPermutation (map (shows project order values) (filter (λ r. passes (cells (width tree) r)) (db tree))) outs
      × (rows ≡ page (matching_most tree tests project order limit) values (map (λ o. o.1) outs)) × IsSorted (output_cmp (matching_most tree tests project order limit)) outs
  finds_most = finds_by tree tests project order values (λ r. passes (cells (width tree) r)) db rows test

  pub finds : IsAnswerAs Null (matching tree tests project order) db values rows
      → (outs : List Output) × IsPermutation (map (shows project order values) (filter (λ r. passes (cells (width tree) r)) (db tree))) outs
      × (rows ≡ map (λ o. o.1) outs) × IsSorted (output_cmp (matching tree tests project order)) outs
  finds a = finds_most (lit (Int (negsuc 0))) a

module _ (tree : ℕ) (tests anew : List Term) (values : Row) (passes : Row → Bool) (db seen : Trees) (rows : List Row) (test : IsTestBy tree tests values passes) (same : seen tree ≡ db tree) (keyed : AreKeyed (db tree))
    (h : IsSureAnswer (matching tree tests (col 1 0 ∷ anew) []) seen values rows) where
  abbrev passing : Row → Bool
  passing r = passes (cells (width tree) r)

  abbrev show : Row → Output
  show = shows (col 1 0 ∷ anew) [] values

  -- the rows that a DELETE or an UPDATE takes out, by their rowids, and how many they are
  takes_out : (outs : List Output) × IsPermutation (map show (filter passing (db tree))) outs × (rows ≡ map (λ o. o.1) outs)
      × (without_all (db tree) (ids_of rows) ≡ filter (λ r. not (passing r)) (db tree)) × (length rows ≡ length (filter passing (db tree)))
  takes_out =
      let found = finds tree tests (col 1 0 ∷ anew) [] values passes seen rows test (h Null) in
      let here = subst (λ all. IsPermutation (map show (filter passing all)) found.0) same found.1 in
      let id = λ (o : Output). id_in (rowid o.1) in
      let ids : ids_of rows ≡ map id found.0 = ap ids_of found.2 ∙ map-map _ _ found.0 in (
        found.0,
        here,
        found.2,
        removed passing (db tree) keyed (ids_of rows) (subst (IsPermutation _) (sym ids) (subst (λ xs. IsPermutation xs (map id found.0)) (map-map id show (filter passing (db tree))) (IsPermutation-map id _ _ here))),
        ap length found.2 ∙ length-map found.0 (λ (o : Output). o.1) ∙ length_permutation _ _ here ∙ length-map (filter passing (db tree)) show,
      )

-- the rows that a DELETE takes, and how many they are
pub leaves : (tree : ℕ) (tests : List Term) (values : Row) (passes : Row → Bool) (db seen : Trees) (rows : List Row) → IsTestBy tree tests values passes → seen tree ≡ db tree → AreKeyed (db tree)
    → IsSureAnswer (matching tree tests (col 1 0 ∷ []) []) seen values rows
    → (bodies tree (without_all (db tree) (ids_of rows)) ≡ filter (λ b. not (passes b)) (bodies tree (db tree))) × (length rows ≡ length (filter passes (bodies tree (db tree))))
leaves tree tests values passes db seen rows test same keyed h =
    let p = λ (r : Row). passes (cells (width tree) r) in
    let out = takes_out tree tests [] values passes db seen rows test same keyed h in (
      ap (bodies tree) out.3 ∙ sym (filter-map (λ b. not (passes b)) (cells (width tree)) (db tree)),
      out.4 ∙ sym (length-map (filter p (db tree)) (cells (width tree))) ∙ ap length (sym (filter-map passes (cells (width tree)) (db tree))),
    )

-- the row that an UPDATE puts in the place of another: it has its rowid
abbrev pub remade : Table → List Term → Row → Row → Row
remade table anew values r = cast_row table (column r 0 ∷ eval_all anew (values ∷ r ∷ []))

alone_in : (rows : List Row) → length rows ≡ 1 → (r : Row) × (rows ≡ r ∷ [])
alone_in [] one = absurd (omega (arith, one))
alone_in (r ∷ []) one = (r, refl)
alone_in (r ∷ s ∷ rows) one = absurd (omega (arith, one))

-- the one row that an UPDATE takes, and what it leaves
pub replaces : (tree : ℕ) (table : Table) (tests anew : List Term) (values : Row) (passes : Row → Bool) (db seen : Trees) (rows after : List Row) → IsTestBy tree tests values passes → seen tree ≡ db tree → AreKeyed (db tree)
    → IsSureAnswer (matching tree tests (col 1 0 ∷ col 1 0 ∷ anew) []) seen values rows → length rows ≡ 1
    → are_fresh (without_all (db tree) (ids_of rows)) (numbered Given (without_all (db tree) (ids_of rows)) (map (λ s. cast_row table (drop 1 s)) rows)) ≡ true
    → after ≡ put_all (without_all (db tree) (ids_of rows)) (numbered Given (without_all (db tree) (ids_of rows)) (map (λ s. cast_row table (drop 1 s)) rows))
    → (r : Row) × (filter (λ r. passes (cells (width tree) r)) (db tree) ≡ r ∷ []) × (is_taken (filter (λ r. not (passes (cells (width tree) r))) (db tree)) (remade table anew values r) ≡ false)
    × (after ≡ put_row (remade table anew values r) (filter (λ r. not (passes (cells (width tree) r))) (db tree)))
replaces tree table tests anew values passes db seen rows after test same keyed h one fresh put =
    let out = takes_out tree tests (col 1 0 ∷ anew) values passes db seen rows test same keyed h in
    let rest = filter (λ r. not (passes (cells (width tree) r))) (db tree) in
    let only = alone_in (filter (λ r. passes (cells (width tree) r)) (db tree)) (sym out.4 ∙ one) in
    let show = shows (col 1 0 ∷ col 1 0 ∷ anew) [] values in
    let outs : out.0 ≡ show only.0 ∷ [] = one_permutation (show only.0) out.0 (subst (λ xs. IsPermutation (map show xs) out.0) only.1 out.1) in
    let is : rows ≡ (column only.0 0 ∷ column only.0 0 ∷ eval_all anew (values ∷ only.0 ∷ [])) ∷ [] = out.2 ∙ ap (map (λ (o : Output). o.1)) outs in
    let news = λ (left given : List Row). numbered Given left (map (λ s. cast_row table (drop 1 s)) given) in
    let free = subst (λ given. are_fresh rest (news rest given) ≡ true) is (subst (λ left. are_fresh left (news left rows) ≡ true) out.3 fresh) in (
      only.0,
      only.1,
      fresh_one (is_taken rest (remade table anew values only.0)) free,
      put ∙ ap (λ left. put_all left (news left rows)) out.3 ∙ ap (λ given. put_all rest (news rest given)) is,
    )

-- the first column is the topic
pub of_first : (topic : List ℕ) (body : Row) → agrees (Text topic ∷ []) body ≡ is_of topic body
of_first topic body = truth_and _ ∙ text_test (column body 0) topic
  where
    truth_and : (b : Bool) → (b && true) ≡ b
    truth_and true = refl
    truth_and false = refl

pub but_first : (topic : List ℕ) (bodies : List Row) → filter (λ b. not (agrees (Text topic ∷ []) b)) bodies ≡ but_topic topic bodies
but_first topic bodies = filter_same _ (λ b. not (is_of topic b)) bodies (all_of _ (λ b. ap not (of_first topic b)) bodies)
