-- What the queries of a topic's rows show.
use Rattle.std.proofs.Common.{◌≡◌, codes, List, [], ◌∷◌, map, filter, take, length, get_or, ℕ, ◌+◌, ◌<◌, Bool, true, false, inl, inr, Option, Some, None, Ordering, IsTrue, refl, sym, ap, subst, ◌∙◌, arith}
use Rattle.std.specs.List.{All}
use Rattle.std.specs.List.Sorted.{IsPermutation, IsSorted}
use Rattle.std.specs.Ordering.{is_lt}
use Rattle.std.proofs.lemmas.Bool.{cases_Bool}
use Rattle.std.proofs.lemmas.List.{length-map, get_or-map}
use Rattle.std.proofs.lemmas.List.Elements.{All-map}
use Rattle.std.proofs.lemmas.List.Sorted.{All-permutation, IsPermutation-map, IsPermutation-sym}
use Rattle.sqlite.specs.declared.types.Value.TheVariants.{Null, Text}
use Rattle.sqlite.specs.Order.{Row, column, row_cmp}
use Rattle.sqlite.specs.Tree.{Trees}
use Rattle.sqlite.specs.Term.{Term, col, eval_all}
use Rattle.sqlite_value.specs.declared.keys.Key.{Key}
use Rattle.sqlite_value.specs.Keys.{ascending}
use Rattle.sqlite.specs.Collation.TheVariants.{Binary}
use Rattle.sqlite.specs.Query.{Output, output_cmp}
use Rattle.sqlite.specs.Program.{overlay}
use Rattle.sqlite.specs.Command.TheVariants.{Select}
use Rattle.sqlite_trees.proofs.ListLemmas.{filter-map, map-map, filter_same, all_of}
use Rattle.sqlite.specs.State.{State, IsUnchanged, Shown, ShowsRows}
use Rattle.sqlite.specs.Effect.{Database}
use Rattle.sqlite.specs.Listing.{understood, reads_listing}
use Rattle.sqlite_resolve.specs.declared.compiled.Compiled.{Compiled}
use Rattle.sqlite_schema.specs.declared.command.Returning.{Returning}
use Rattle.sqlite.proofs.Callers.{IsPlain, command_of, reads_as}
use Rattle.row_forms.specs.Schema.{schema_9}
use Rattle.row_forms.specs.Cells.{TOPIC, SUB, ACK, DEAD, REDELIVERY, AUTHOR, RETENTION, width, cells, bodies, is_of}
use Rattle.row_tables.specs.Ready.{IsReady}
use Rattle.row_tables.specs.Goes.{Goes, Stays, Shows}
use Rattle.row_tables.specs.Ordered.{AreSortedBy}
use Rattle.row_tables.proofs.Texts.{alone, matching, equals, select_topic, select_topic_is, select_sub, select_sub_is, select_ack, select_ack_is, select_dead, select_dead_is, select_count, select_count_is, select_author, select_author_is, select_retention, select_retention_is}
use Rattle.row_tables.proofs.TableLemmas.{text_is}
use Rattle.row_tables.proofs.StatementLemmas.{finds, agrees, IsTest, IsTestBy, of_first, shows}

same_passed : {A B : Type 0} (p : A → Bool) (f g : A → B) → ((x : A) → p x ≡ true → f x ≡ g x) → (xs : List A) → map f (filter p xs) ≡ map g (filter p xs)
same_passed p f g same [] = refl
same_passed p f g same (x ∷ xs) = elim (cases_Bool (p x)) [
  | inl e ↦ rw (e, same_passed p f g same xs, same x e) refl
  | inr e ↦ rw (e, same_passed p f g same xs) refl
]

-- things in an order are shown in that order, where what is shown of them has it
pub sorted_shown : {A B : Type 0} (P : A → Type 0) (by : A → A → Ordering) (cmp : B → B → Ordering) (show : A → B) → ((x y : A) → P x → P y → cmp (show x) (show y) ≡ by x y) → (xs : List A) → All P xs → IsSorted by xs → IsSorted cmp (map show xs)
sorted_shown P by cmp show same [] all sorted k d low below = absurd (omega (arith, below))
sorted_shown P by cmp show same (x ∷ xs) all sorted k d low below =
    let all_xs = x ∷ xs in
    let second : k + 1 < length all_xs = subst (λ n. k + 1 < n) (length-map all_xs show) below in
    let first : k < length all_xs = omega (arith, second) in
    ap (λ y. is_lt (cmp y (get_or (map show all_xs) k d))) (get_or-map show all_xs (k + 1) x d second)
    ∙ ap (λ y. is_lt (cmp (show (get_or all_xs (k + 1) x)) y)) (get_or-map show all_xs k x d first)
    ∙ ap is_lt (same (get_or all_xs (k + 1) x) (get_or all_xs k x) (all (k + 1) x second) (all k x first))
    ∙ sorted k x low second

module _ (tree : ℕ) (tests project : List Term) (order : List (Term × Key)) (columns : ℕ) (values : Row) (passes : Row → Bool) (topic : List ℕ) (test : IsTestBy tree tests values passes)
    (of : (r : Row) → passes (cells (width tree) r) ≡ true → column r 1 ≡ Text topic) (all : (r : Row) → column r 1 ≡ Text topic → Text topic ∷ eval_all project (values ∷ r ∷ []) ≡ cells (width tree) r)
    (seen : (db : Trees) → overlay db [] tree ≡ db tree) where
  abbrev put : Row → Row
  put r = Text topic ∷ r

  abbrev show : Row → Output
  show = shows project order values

  -- what the query shows of a row
  abbrev IsShown : Output → Type 0
  IsShown o = (r : Row) × (o ≡ show r)

  -- a row is shown by its first columns where it is put
  abbrev LeadsByOrder : Type 0
  LeadsByOrder = (r s : Row) → row_cmp (take columns (show r).1) (take columns (show s).1) ≡ output_cmp (matching tree tests project order) (show r) (show s)

  in_order : LeadsByOrder → (outs : List Output) (stored : List Row) → IsPermutation (map show stored) outs → IsSorted (output_cmp (matching tree tests project order)) outs → AreSortedBy columns (map (λ o. o.1) outs)
  in_order leads outs stored same sorted =
      let all : All IsShown outs = All-permutation IsShown _ outs same (All-map IsShown show stored (λ k d low. (_, refl))) in
      sorted_shown IsShown (output_cmp (matching tree tests project order)) (λ x y. row_cmp (take columns x) (take columns y)) (λ o. o.1) (λ x y (r, is) (s, too). rw (is, too) (leads r s)) outs all sorted

  -- the rows that pass are shown, each without its first column
  pub reads_those : LeadsByOrder → (sql : List ℕ) (names : List (List ℕ)) → command_of (understood schema_9 sql) ≡ Select (alone (matching tree tests project order)) names → IsPlain (understood schema_9 sql) → reads_listing schema_9 sql ≡ false
      → (old new : State) (rows : List Row) → Shown sql values old new rows → IsReady old.now → IsPermutation (map put rows) (filter passes (bodies tree (old.now.trees tree))) × AreSortedBy columns rows
  reads_those leads sql names is plain unlisted old new rows h ready =
      let q = matching tree tests project order in
      let read = reads_as sql values old new schema_9 ready.schema_is (Select (alone q) names) is plain unlisted rows h in
      let found = finds tree tests project order values passes (overlay old.now.trees []) rows test (read.answer Null) in
      let stored = old.now.trees tree in
      let those = filter (λ r. passes (cells (width tree) r)) in
      let here : IsPermutation (map show (those stored)) found.0 = subst (λ xs. IsPermutation (map show (those xs)) found.0) (seen old.now.trees) found.1 in
      let second = λ (o : Output). put o.1 in
      let left : map second (map show (those stored)) ≡ filter passes (bodies tree stored) =
      map-map second show (those stored) ∙ same_passed (λ r. passes (cells (width tree) r)) (λ r. second (show r)) (cells (width tree)) (λ r h. all r (of r h)) stored ∙ sym (filter-map passes (cells (width tree)) stored) in
      let right : map second found.0 ≡ map put rows = sym (map-map put (λ (o : Output). o.1) found.0) ∙ ap (map put) (sym found.2) in (
        IsPermutation-sym _ _ (subst (λ l. IsPermutation l (map put rows)) left (subst (IsPermutation _) right (IsPermutation-map second _ _ here))),
        subst (AreSortedBy columns) (sym found.2) (in_order leads found.0 (those stored) here found.3),
      )

module _ (tree : ℕ) (project : List Term) (order : List (Term × Key)) (columns : ℕ) (topic : List ℕ) (first : (r : Row) → column (cells (width tree) r) 0 ≡ column r 1) (test : IsTest tree (equals 0 ∷ []) (Text topic ∷ []))
    (all : (r : Row) → column r 1 ≡ Text topic → Text topic ∷ eval_all project ((Text topic ∷ []) ∷ r ∷ []) ≡ cells (width tree) r) (seen : (db : Trees) → overlay db [] tree ≡ db tree) where
  abbrev is_topic : Row → Bool
  is_topic = agrees (Text topic ∷ [])

  pub is_first : (r : Row) → is_topic (cells (width tree) r) ≡ true → column r 1 ≡ Text topic
  is_first r h = sym (first r) ∙ text_is (column (cells (width tree) r) 0) topic (sym (of_first topic (cells (width tree) r)) ∙ h)

  pub reads_rows : LeadsByOrder tree (equals 0 ∷ []) project order columns (Text topic ∷ []) is_topic topic test is_first all seen → (sql : List ℕ) (names : List (List ℕ))
      → command_of (understood schema_9 sql) ≡ Select (alone (matching tree (equals 0 ∷ []) project order)) names → IsPlain (understood schema_9 sql) → reads_listing schema_9 sql ≡ false
      → (old new : State) (rows : List Row) → Shown sql (Text topic ∷ []) old new rows → IsReady old.now → Shows tree topic rows old.now.trees × AreSortedBy columns rows
  reads_rows leads sql names is plain unlisted old new rows h ready =
      let read = reads_those tree (equals 0 ∷ []) project order columns (Text topic ∷ []) is_topic topic test is_first all seen leads sql names is plain unlisted old new rows h ready in
      let body = bodies tree (old.now.trees tree) in
      (subst (IsPermutation (map (λ (r : Row). Text topic ∷ r) rows)) (filter_same is_topic (is_of topic) body (all_of _ (of_first topic) body)) read.0, read.1)

-- ---- a query leaves all as it was

unchanged_as : (sql : List ℕ) (params : Row) (old new : State) (rows : List Row) → IsPlain (understood schema_9 sql) → old.now.schema ≡ schema_9 → Shown sql params old new rows → IsUnchanged old new
unfolding Shown
unchanged_as sql params old new rows plain has h =
    let known = sym h.1.is ∙ ap (λ s. understood s sql) has in
    let bare = subst IsPlain (sym known) plain in
    (rw bare.0 at h.2).3

pub was_open : (old new : State) (sql : List ℕ) (c : Compiled) (params : Row) (rows : List Row) (o : Option Returning) → ShowsRows old new sql c params rows o
    → IsTrue old.is_open × IsTrue new.is_open × (IsTrue old.in_transaction → IsTrue new.in_transaction × (new.committed ≡ old.committed))
was_open old new sql c params rows None h = (h.3.0.was_open, h.3.0.is_open, λ run. (subst IsTrue (sym h.3.0.mode) run, h.3.0.committed_is))
was_open old new sql c params rows (Some what) h = let w = h.1.shown in (w.was_open, w.is_open, λ run. (subst IsTrue (sym w.mode) run, w.committed_is ∙ rw run refl))

pub shown_goes : (sql : List ℕ) (params : Row) (old new : State) (rows : List Row) → IsPlain (understood schema_9 sql) → Shown sql params old new rows → Goes Stays old new
unfolding Shown
shown_goes sql params old new rows plain h =
    let was = was_open old new sql h.0 _ rows h.0.returning h.2 in
    record {
      running = λ run. (was.2 run).0;
      shown = λ _. was.1;
      was_shown = λ _. was.0;
      committed = λ run. (was.2 run).1;
      does = λ ready. let now = (unchanged_as sql params old new rows plain ready.schema_is h).0.now_is in (subst IsReady (sym now) ready, ap (λ (d : Database). d.trees) now);
    }

pub reads_topic : (topic : List ℕ) (old new : State) (rows : List Row) → Shown select_topic (Text topic ∷ []) old new rows → IsReady old.now → Shows TOPIC topic rows old.now.trees × AreSortedBy 0 rows
reads_topic topic = reads_rows TOPIC (col 1 2 ∷ col 1 3 ∷ col 1 4 ∷ []) ([]) 0 topic (λ _. refl) (λ _. refl) (λ r e. rw e refl) (λ _. refl) (λ _ _. refl) select_topic (codes "ledger_size" ∷ codes "ledger" ∷ codes "ordinal" ∷ []) select_topic_is.0 select_topic_is.2 select_topic_is.1

pub reads_sub : (topic : List ℕ) (old new : State) (rows : List Row) → Shown select_sub (Text topic ∷ []) old new rows → IsReady old.now → Shows SUB topic rows old.now.trees × AreSortedBy 1 rows
reads_sub topic = reads_rows SUB (col 1 2 ∷ col 1 3 ∷ []) ((col 1 2, ascending Binary) ∷ []) 1 topic (λ _. refl) (λ _. refl) (λ r e. rw e refl) (λ _. refl) (λ _ _. refl) select_sub (codes "name" ∷ codes "kind" ∷ []) select_sub_is.0 select_sub_is.2 select_sub_is.1

pub reads_ack : (topic : List ℕ) (old new : State) (rows : List Row) → Shown select_ack (Text topic ∷ []) old new rows → IsReady old.now → Shows ACK topic rows old.now.trees × AreSortedBy 2 rows
reads_ack topic = reads_rows ACK (col 1 2 ∷ col 1 3 ∷ col 1 4 ∷ []) ((col 1 2, ascending Binary) ∷ (col 1 3, ascending Binary) ∷ []) 2 topic (λ _. refl) (λ _. refl) (λ r e. rw e refl) (λ _. refl) (λ _ _. refl) select_ack (codes "sub" ∷ codes "first" ∷ codes "last" ∷ []) select_ack_is.0 select_ack_is.2 select_ack_is.1

pub reads_dead : (topic : List ℕ) (old new : State) (rows : List Row) → Shown select_dead (Text topic ∷ []) old new rows → IsReady old.now → Shows DEAD topic rows old.now.trees × AreSortedBy 2 rows
reads_dead topic = reads_rows DEAD (col 1 2 ∷ col 1 3 ∷ col 1 4 ∷ col 1 5 ∷ []) ((col 1 2, ascending Binary) ∷ (col 1 3, ascending Binary) ∷ []) 2 topic (λ _. refl) (λ _. refl) (λ r e. rw e refl) (λ _. refl) (λ _ _. refl) select_dead (codes "sub" ∷ codes "ordinal" ∷ codes "idx" ∷ codes "target" ∷ []) select_dead_is.0 select_dead_is.2 select_dead_is.1

pub reads_count : (topic : List ℕ) (old new : State) (rows : List Row) → Shown select_count (Text topic ∷ []) old new rows → IsReady old.now → Shows REDELIVERY topic rows old.now.trees × AreSortedBy 2 rows
reads_count topic = reads_rows REDELIVERY (col 1 2 ∷ col 1 3 ∷ col 1 4 ∷ []) ((col 1 2, ascending Binary) ∷ (col 1 3, ascending Binary) ∷ []) 2 topic (λ _. refl) (λ _. refl) (λ r e. rw e refl) (λ _. refl) (λ _ _. refl) select_count (codes "sub" ∷ codes "idx" ∷ codes "times" ∷ []) select_count_is.0 select_count_is.2 select_count_is.1

pub reads_author : (topic : List ℕ) (old new : State) (rows : List Row) → Shown select_author (Text topic ∷ []) old new rows → IsReady old.now → Shows AUTHOR topic rows old.now.trees × AreSortedBy 1 rows
reads_author topic = reads_rows AUTHOR (col 1 2 ∷ col 1 3 ∷ col 1 4 ∷ []) ((col 1 2, ascending Binary) ∷ []) 1 topic (λ _. refl) (λ _. refl) (λ r e. rw e refl) (λ _. refl) (λ _ _. refl) select_author (codes "idx" ∷ codes "producer" ∷ codes "sequence" ∷ []) select_author_is.0 select_author_is.2 select_author_is.1

pub reads_retention : (topic : List ℕ) (old new : State) (rows : List Row) → Shown select_retention (Text topic ∷ []) old new rows → IsReady old.now → Shows RETENTION topic rows old.now.trees × AreSortedBy 0 rows
reads_retention topic = reads_rows RETENTION (col 1 2 ∷ col 1 3 ∷ col 1 4 ∷ []) [] 0 topic (λ _. refl) (λ _. refl) (λ r e. rw e refl) (λ _. refl) (λ _ _. refl) select_retention (codes "gone" ∷ codes "kind" ∷ codes "amount" ∷ []) select_retention_is.0 select_retention_is.2 select_retention_is.1
