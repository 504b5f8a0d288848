-- What the tables more and the UPDATE of the mark make of a database of the version before.
use Rattle.std.proofs.Common.{◌≡◌, ℕ, pos, negsuc, List, [], ◌∷◌, map, filter, slice_get, codes, Bool, true, Some, None, Ok, IsTrue, refl, sym, ap, subst, ◌∙◌, arith}
use Rattle.std.specs.Prelude.{◌&&◌}
use Rattle.std.specs.Cmp.{tied_itself}
use Rattle.std.specs.Ordering.{is_eq}
use Rattle.std.specs.List.Sorted.{IsPermutation}
use Rattle.sqlite_value.proofs.OrderLemmas.{value_cmp_total}
use Rattle.sqlite.specs.declared.types.Value.{Value}
use Rattle.sqlite.specs.declared.types.Value.TheVariants.{Null, Int}
use Rattle.sqlite.specs.Order.{Row, value_cmp}
use Rattle.sqlite.specs.Tree.{rowid}
use Rattle.sqlite.specs.Term.{Term, lit, col, op2}
use Rattle.sqlite.specs.Ops.{binary, is_true}
use Rattle.sqlite_sql.specs.declared.ops.BinaryOp.TheVariants.{Compare}
use Rattle.sqlite_sql.specs.declared.ops.CompareOp.TheVariants.{Eq}
use Rattle.sqlite.specs.Collation.TheVariants.{Binary}
use Rattle.sqlite.specs.Query.{Query, Output}
use Rattle.sqlite.specs.Program.{overlay}
use Rattle.sqlite.specs.Command.TheVariants.{Update}
use Rattle.sqlite.specs.Does.{Does}
use Rattle.sqlite.specs.Edit.{without_all, put_all, edit_of}
use Rattle.sqlite.specs.Rowids.TheVariants.{Given}
use Rattle.sqlite_rules.specs.Calls.{ids_of}
use Rattle.sqlite.specs.Schema.{Schema}
use Rattle.sqlite.specs.Table.{Table as TheTable}
use Rattle.sqlite_rules.specs.Action.{works}
use Rattle.sqlite.specs.declared.run.Mode.{Mode}
use Rattle.sqlite.specs.Listing.{understood}
use Rattle.sqlite.specs.State.{State, ExecutesInside, mode_of}
use Rattle.sqlite.proofs.Callers.{IsPlain, command_of, statement_of, runs_as, one_permutation}
use Rattle.sqlite_tied.specs.Compute.{everything}
use Rattle.sqlite_trees.specs.View.{IsShaped}
use Rattle.sqlite_trees.specs.declared.store.Shape.TheVariants.{Table}
use Rattle.sqlite_trees.proofs.TreeLemmas.{IsShaped-put_row}
use Rattle.row_forms.specs.Schema.{schema_6, schema_7, schema_8, schema_9}
use Rattle.row_forms.specs.Cells.{META, REDELIVERY, AUTHOR, RETENTION}
use Rattle.row_tables.specs.Ready.{IsMarked, IsVersion1, IsVersion2, BecomesVersion2, BecomesVersion3, versions}
use Rattle.row_tables.proofs.Texts.{alone, matching}
use Rattle.row_tables.proofs.TableLemmas.{same_int}
use Rattle.row_tables.proofs.StatementLemmas.{cast_int, cast_null, finds_by, shows, plain_table, updates}
use Rattle.row_tables.proofs.PartLemmas.{keyed_as, keyed_from}
use Rattle.row_schema.specs.Making.{Extends}
use Rattle.row_schema.specs.Upgrading.{Marks, Raises}
use Rattle.row_schema.proofs.MakingLemmas.{meta_columns}

abbrev has_id_1 : Term
has_id_1 = op2 (Compare Eq Binary) (col 1 0) (lit (Int (pos 1)))

abbrev anew : ℕ → List Term
anew to = col 1 0 ∷ col 1 0 ∷ lit Null ∷ lit (Int (pos to)) ∷ []

abbrev changed : ℕ → Query
changed to = matching META (has_id_1 ∷ []) (anew to) []

-- the row of the version
abbrev row : ℕ → Row
row to = Int (pos 1) ∷ Null ∷ Int (pos to) ∷ []

-- the only mark is in a row with the rowid 1
only_row : (from : ℕ) (rows : List Row) → versions rows ≡ (Int (pos 1) ∷ Int (pos from) ∷ []) ∷ [] → (r : Row) × (rows ≡ r ∷ []) × (rowid r ≡ Int (pos 1))
only_row from [] one = absurd cc
only_row from (r ∷ []) one = (r, refl, cc)
only_row from (r ∷ s ∷ rows) one = absurd cc

abbrev passes : Row → Bool
passes r = is_true (binary (Compare Eq Binary) (rowid r) (Int (pos 1))) && true

abbrev show : ℕ → Row → Output
show to = shows (anew to) [] []

-- the one row with the rowid 1 is found, and none is left without it
found_only : (r : Row) (rows : List Row) → rows ≡ r ∷ [] → rowid r ≡ Int (pos 1) → (filter passes rows ≡ r ∷ []) × (without_all rows (pos 1 ∷ []) ≡ [])
found_only r rows one id =
    let passed : passes r ≡ true = rw (id, same_int (pos 1)) refl in
    let same : is_eq (value_cmp (Int (pos 1)) (Int (pos 1))) ≡ true = ap is_eq (tied_itself value_cmp_total (Int (pos 1))) in
    (rw (one, passed) refl, rw (one, id, same) refl)

-- the table of the marks is the schema's first, and nothing follows from its rows
abbrev meta : TheTable
meta = plain_table (codes "meta") META meta_columns (Some 0) (0 ∷ []) [] []

module _ (schema : Schema) (from to : ℕ) (sql : List ℕ) (is : (command_of (understood schema sql) ≡ Update 0 (alone (changed to))) × IsPlain (understood schema sql)) (first : slice_get schema.tables 0 ≡ Some meta)
    (none : (olds news : List Row) (mode : Mode) → works schema mode.keys 0 META olds news ≡ []) where
  marks : (old new : State) (count : ℕ) → ExecutesInside 0 sql [] old new (Ok count) → Marks schema from to old new
  marks old new count h = record {
    running = λ _. subst IsTrue (sym h.1.mode) refl;
    was_open = h.1.was_open;
    does = λ has one.
        let command = Update 0 (alone (changed to)) in
        let w = runs_as sql [] old new schema has command is.0 is.1 count h.0 in
        let text = statement_of sql (understood schema sql) in
        let does = subst (λ s. Does old.step_limit (mode_of old) [] (record old.now { schema = s }) text None command (Ok (w.tally, new.now))) has w.changed in
        let d = updates schema 0 (codes "meta") META meta_columns (Some 0) (0 ∷ []) [] [] first none old.step_limit (mode_of old) [] old.now.trees text w.tally new.now (changed to) does in
        let stored = old.now.trees META in
        let only = only_row from stored one in
        let mine = found_only only.0 stored only.1 only.2 in
        let found = finds_by META (has_id_1 ∷ []) (anew to) [] [] passes (overlay old.now.trees []) d.0 (λ _. refl) (lit (Int (negsuc 0))) (d.1 Null) in
        let outs : found.0 ≡ show to only.0 ∷ [] = one_permutation (show to only.0) found.0 (subst (λ xs. IsPermutation (map (show to) xs) found.0) mine.0 found.1) in
        let rows : d.0 ≡ (Int (pos 1) ∷ row to) ∷ [] = found.2 ∙ ap (map (λ (o : Output). o.1)) outs ∙ ap (λ (v : Value). (v ∷ v ∷ Null ∷ Int (pos to) ∷ []) ∷ []) only.2 in
        let after = λ (given : List Row). put_all (without_all stored (ids_of given)) (edit_of old.now.trees meta (ids_of given) Given 1 given).news in
        let left : after ((Int (pos 1) ∷ row to) ∷ []) ≡ row to ∷ [] = rw (mine.1, cast_null, cast_int (pos 1), cast_int (pos to)) refl in
        let is : new.now.trees META ≡ row to ∷ [] = d.3 ∙ ap after rows ∙ left in
        record {
          listed = d.5;
          sound = w.sound;
          keyed = subst (IsShaped Table) (sym is) (IsShaped-put_row (row to) [] refl (tt, tt));
          mark = subst (λ rows. IsMarked to (λ t. rows)) (sym is) refl;
          others = d.4;
        };
  }

abbrev mark_2 : List ℕ
mark_2 = codes "UPDATE meta SET version = 2 WHERE id = 1"

mark_2_is : (command_of (understood schema_7 mark_2) ≡ Update 0 (alone (changed 2))) × IsPlain (understood schema_7 mark_2)
unfolding understood everything
mark_2_is = (refl, (refl, refl))

pub marks_2 : (old new : State) (count : ℕ) → ExecutesInside 0 mark_2 [] old new (Ok count) → Marks schema_7 1 2 old new
marks_2 = marks schema_7 1 2 mark_2 mark_2_is refl (λ _ _ _. refl)

abbrev mark_3 : List ℕ
mark_3 = codes "UPDATE meta SET version = 3 WHERE id = 1"

mark_3_is : (command_of (understood schema_9 mark_3) ≡ Update 0 (alone (changed 3))) × IsPlain (understood schema_9 mark_3)
unfolding understood everything
mark_3_is = (refl, (refl, refl))

pub marks_3 : (old new : State) (count : ℕ) → ExecutesInside 0 mark_3 [] old new (Ok count) → Marks schema_9 2 3 old new
marks_3 = marks schema_9 2 3 mark_3 mark_3_is refl (λ _ _ _. refl)

stays : (rows had : List Row) → rows ≡ had → IsShaped Table had → IsShaped Table rows
stays rows had same shaped = subst (IsShaped Table) (sym same) shaped

-- the table more, and then the mark
pub raises_2 : (x y z : State) → Extends schema_6 schema_7 x y → Marks schema_7 1 2 y z → Raises IsVersion1 BecomesVersion2 x z
raises_2 x y z p q = record {
  running = λ run. q.running (p.running run);
  was_open = p.was_open;
  does = λ was.
      let grown = p.does was.schema_is in
      let it = q.does grown.listed (subst (λ rows. IsMarked 1 (λ t. rows)) (sym grown.others.0) was.version_is) in
      let keyed = keyed_as schema_6 x.now was.schema_is was.keyed in
      let topics = it.others.1.0 (λ e. omega (arith, e)) ∙ grown.others.1.0 in
      let entries = it.others.1.1.0 (λ e. omega (arith, e)) ∙ grown.others.1.1.0 in
      let subs = it.others.1.1.1.0 (λ e. omega (arith, e)) ∙ grown.others.1.1.1.0 in
      let acks = it.others.1.1.1.1.0 (λ e. omega (arith, e)) ∙ grown.others.1.1.1.1.0 in
      let deads = it.others.1.1.1.1.1.0 (λ e. omega (arith, e)) ∙ grown.others.1.1.1.1.1.0 in
      let counts : z.now.trees REDELIVERY ≡ [] = it.others.1.1.1.1.1.1.0 (λ e. omega (arith, e)) ∙ grown.empty in
      record {
        was = was;
        is = record {
          schema_is = it.listed;
          keyed = keyed_from schema_7 z.now it.listed (it.keyed, (stays _ _ topics keyed.1.0, (stays _ _ entries keyed.1.1.0, (stays _ _ subs keyed.1.1.1.0, (stays _ _ acks keyed.1.1.1.1.0, (stays _ _ deads keyed.1.1.1.1.1.0, (stays _ _ counts (tt, tt), tt)))))));
          version_is = it.mark;
        };
        sound = it.sound;
        topics = topics;
        entries = entries;
        subs = subs;
        acks = acks;
        deads = deads;
        counts = counts;
      };
}

-- the two tables more, and then the mark
pub raises_3 : (w x y z : State) → Extends schema_7 schema_8 w x → Extends schema_8 schema_9 x y → Marks schema_9 2 3 y z → Raises IsVersion2 BecomesVersion3 w z
raises_3 w x y z p q r = record {
  running = λ run. r.running (q.running (p.running run));
  was_open = p.was_open;
  does = λ was.
      let first = p.does was.schema_is in
      let grown = q.does first.listed in
      let it = r.does grown.listed (subst (λ rows. IsMarked 2 (λ t. rows)) (sym (grown.others.0 ∙ first.others.0)) was.version_is) in
      let keyed = keyed_as schema_7 w.now was.schema_is was.keyed in
      let topics = it.others.1.0 (λ e. omega (arith, e)) ∙ grown.others.1.0 ∙ first.others.1.0 in
      let entries = it.others.1.1.0 (λ e. omega (arith, e)) ∙ grown.others.1.1.0 ∙ first.others.1.1.0 in
      let subs = it.others.1.1.1.0 (λ e. omega (arith, e)) ∙ grown.others.1.1.1.0 ∙ first.others.1.1.1.0 in
      let acks = it.others.1.1.1.1.0 (λ e. omega (arith, e)) ∙ grown.others.1.1.1.1.0 ∙ first.others.1.1.1.1.0 in
      let deads = it.others.1.1.1.1.1.0 (λ e. omega (arith, e)) ∙ grown.others.1.1.1.1.1.0 ∙ first.others.1.1.1.1.1.0 in
      let counts = it.others.1.1.1.1.1.1.0 (λ e. omega (arith, e)) ∙ grown.others.1.1.1.1.1.1.0 ∙ first.others.1.1.1.1.1.1.0 in
      let authors : z.now.trees AUTHOR ≡ [] = it.others.1.1.1.1.1.1.1.0 (λ e. omega (arith, e)) ∙ grown.others.1.1.1.1.1.1.1.0 ∙ first.empty in
      let retentions : z.now.trees RETENTION ≡ [] = it.others.1.1.1.1.1.1.1.1.0 (λ e. omega (arith, e)) ∙ grown.empty in
      record {
        was = was;
        is = record {
          schema_is = it.listed;
          keyed = keyed_from schema_9 z.now it.listed (it.keyed, (stays _ _ topics keyed.1.0, (stays _ _ entries keyed.1.1.0, (stays _ _ subs keyed.1.1.1.0, (stays _ _ acks keyed.1.1.1.1.0, (stays _ _ deads keyed.1.1.1.1.1.0, (stays _ _ counts keyed.1.1.1.1.1.1.0, (stays _ _ authors (tt, tt), (stays _ _ retentions (tt, tt), tt)))))))));
          version_is = it.mark;
        };
        sound = it.sound;
        topics = topics;
        entries = entries;
        subs = subs;
        acks = acks;
        deads = deads;
        counts = counts;
        authors = authors;
        retentions = retentions;
      };
}
