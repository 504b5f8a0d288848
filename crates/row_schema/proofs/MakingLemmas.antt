-- What the CREATEs and the row of the version make of a database.
use Rattle.std.proofs.Common.{◌≡◌, ℕ, pos, List, [], ◌∷◌, codes, false, None, Some, Result, Ok, Err, OnOk, IsTrue, refl, sym, ap, subst, ◌∙◌, arith}
use Rattle.std.specs.List.{AllByRecursion}
use Rattle.sqlite.specs.declared.types.Value.TheVariants.{Null, Int}
use Rattle.sqlite.specs.Table.{Table}
use Rattle.sqlite.specs.Schema.{Schema}
use Rattle.sqlite.specs.Order.{Row}
use Rattle.sqlite.specs.Term.{Term, lit}
use Rattle.sqlite.specs.Tree.{Trees, put_row}
use Rattle.sqlite.specs.Kind.TheVariants.{Integer}
use Rattle.sqlite.specs.Source.TheVariants.{Values}
use Rattle.sqlite.specs.Command.TheVariants.{CreateTable, Insert}
use Rattle.sqlite.specs.Change.{created, next_tree}
use Rattle.sqlite.specs.Does.{Tally, Does, lacks_sequence}
use Rattle.sqlite.specs.Effect.{Database}
use Rattle.sqlite.specs.Listing.{understood}
use Rattle.sqlite.specs.State.{State, Writes, ExecutesInside, Shows, KeepsCounts, mode_of}
use Rattle.sqlite.specs.Held.{Held, state}
use Rattle.sqlite_trees.specs.declared.store.Store.{Ghosts}
use Rattle.sqlite_trees.specs.View.{IsShaped}
use Rattle.sqlite_trees.specs.declared.store.Shape.TheVariants as shape
use Rattle.sqlite_trees.proofs.ListLemmas.{all-append, all_both}
use Rattle.sqlite_trees.proofs.TreeLemmas.{IsShaped-put_row}
use Rattle.sqlite_schema.specs.declared.schema.Column.{Column}
use Rattle.sqlite_tied.specs.Compute.{everything}
use Rattle.sqlite.proofs.Callers.{IsPlain, command_of, statement_of, runs_as}
use Rattle.row_forms.specs.Schema.{schema_9, required}
use Rattle.row_forms.specs.Cells.{META}
use Rattle.row_tables.specs.Ready.{IsMarked}
use Rattle.row_tables.proofs.PartLemmas.{keyed_from}
use Rattle.row_tables.proofs.StatementLemmas.{went, same_value, cast_int, cast_null, inserts}
use Rattle.row_schema.specs.Making.{KeepsTables, Leads, Makes, Extends, Fills}

pub extends : (sql : List ℕ) (before after : Schema) → Leads sql before after → (old new : State) (count : ℕ) → ExecutesInside 0 sql [] old new (Ok count) → Extends before after old new
extends sql before after l old new count h = record {
  running = λ _. subst IsTrue (sym h.1.mode) refl;
  was_open = h.1.was_open;
  does = λ has.
      let w = subst (λ t. Writes old new None CreateTable t [] count) l.text (runs_as sql [] old new before has CreateTable l.command l.plain count h.0) in
      let all = went w.changed in
      let first = went all.1 in
      let made = first.1 in
      let same : made.table ≡ l.table = same_value (sym made.defined ∙ l.defined) in
      let schema : first.0.schema ≡ after = made.is ∙ ap (λ s. created s made.table) has ∙ ap (created before) same ∙ l.is in
      let plain_is : lacks_sequence first.0.schema ≡ false = ap lacks_sequence schema ∙ l.uncounted in
      let now : new.now ≡ first.0 = ap (λ (p : Tally × Database). p.1) (same_value all.2) ∙ same_value (rw plain_is at first.2) in
      let fresh : first.0.trees (next_tree before) ≡ [] = subst (λ s. first.0.trees (next_tree s) ≡ []) has made.empty in
      let others = subst (λ s. KeepsTables s old.now.trees first.0.trees) has made.others in
      record {
        listed = ap (λ (d : Database). d.schema) now ∙ schema;
        sound = w.sound;
        empty = ap (λ (d : Database). d.trees (next_tree before)) now ∙ fresh;
        others = subst (λ (d : Database). KeepsTables before old.now.trees d.trees) (sym now) others;
      };
}

-- with no row before it has none after
pub makes : {sql : List ℕ} {before after : Schema} → Leads sql before after → (old new : State) → Extends before after old new → Makes before after old new
makes {sql} {before} {after} l old new e = record {
  running = e.running;
  does = λ was.
      let it = e.does was.listed in
      let kept = all_both (λ (t : Table). new.now.trees t.tree ≡ old.now.trees t.tree) (λ t. old.now.trees t.tree ≡ []) (λ t. new.now.trees t.tree ≡ []) (λ t stays was. stays ∙ was) before.tables it.others was.rows in
      let every = all-append (λ (t : Table). new.now.trees t.tree ≡ []) before.tables (record l.table { tree = next_tree before } ∷ []) kept (it.empty, tt) in
      record { listed = it.listed; rows = subst (λ s. AllByRecursion (λ t. new.now.trees t.tree ≡ []) s.tables) l.is every };
}

pub makes_then : {a b c : Schema} (x y z : State) → Makes a b x y → Makes b c y z → Makes a c x z
makes_then x y z p q = record { running = λ run. q.running (p.running run); does = λ was. q.does (p.does was) }

-- ---- the row of the version

abbrev one_three : List Term
one_three = lit (Int (pos 1)) ∷ lit Null ∷ lit (Int (pos 3)) ∷ []

abbrev row : Row
row = Int (pos 1) ∷ Null ∷ Int (pos 3) ∷ []

abbrev insert_meta : List ℕ
insert_meta = codes "INSERT INTO meta (id, version) VALUES (1, 3)"

insert_meta_is : (command_of (understood schema_9 insert_meta) ≡ Insert 0 (Values one_three 3)) × IsPlain (understood schema_9 insert_meta)
unfolding understood everything
insert_meta_is = (refl, (refl, refl))

abbrev pub meta_columns : List Column
meta_columns = required (codes "id") Integer ∷ required (codes "version") Integer ∷ []

shaped : (rows : List Row) → rows ≡ [] → IsShaped shape.Table rows
shaped rows e = subst (IsShaped shape.Table) (sym e) (tt, tt)

pub fills : (old new : State) (count : ℕ) → ExecutesInside 0 insert_meta [] old new (Ok count) → Fills schema_9 old new
fills old new count h = record {
  running = λ _. subst IsTrue (sym h.1.mode) refl;
  does = λ was.
      let command = Insert 0 (Values one_three 3) in
      let w = runs_as insert_meta [] old new schema_9 was.listed command insert_meta_is.0 insert_meta_is.1 count h.0 in
      let text = statement_of insert_meta (understood schema_9 insert_meta) in
      let does = subst (λ s. Does old.step_limit (mode_of old) [] (record old.now { schema = s }) text None command (Ok (w.tally, new.now))) was.listed w.changed in
      let d = inserts schema_9 0 (codes "meta") META meta_columns (Some 0) (0 ∷ []) [] [] refl (λ _ _ _. refl) old.step_limit (mode_of old) [] old.now.trees text w.tally new.now one_three 3 row row refl (rw (cast_null, cast_int (pos 1), cast_int (pos 3)) refl) does in
      let meta : new.now.trees META ≡ row ∷ [] = d.0 ∙ ap (put_row row) was.rows.0 in
      let topics = d.2.1.0 (λ e. omega (arith, e)) ∙ was.rows.1.0 in
      let entries = d.2.1.1.0 (λ e. omega (arith, e)) ∙ was.rows.1.1.0 in
      let subs = d.2.1.1.1.0 (λ e. omega (arith, e)) ∙ was.rows.1.1.1.0 in
      let acks = d.2.1.1.1.1.0 (λ e. omega (arith, e)) ∙ was.rows.1.1.1.1.0 in
      let deads = d.2.1.1.1.1.1.0 (λ e. omega (arith, e)) ∙ was.rows.1.1.1.1.1.0 in
      let counts = d.2.1.1.1.1.1.1.0 (λ e. omega (arith, e)) ∙ was.rows.1.1.1.1.1.1.0 in
      let authors = d.2.1.1.1.1.1.1.1.0 (λ e. omega (arith, e)) ∙ was.rows.1.1.1.1.1.1.1.0 in
      let retentions = d.2.1.1.1.1.1.1.1.1.0 (λ e. omega (arith, e)) ∙ was.rows.1.1.1.1.1.1.1.1.0 in
      record {
        ready = record {
          schema_is = d.3;
          keyed = keyed_from schema_9 new.now d.3 (subst (IsShaped shape.Table) (sym d.0) (IsShaped-put_row _ _ refl (shaped _ was.rows.0)), (shaped _ topics, (shaped _ entries, (shaped _ subs, (shaped _ acks, (shaped _ deads, (shaped _ counts, (shaped _ authors, (shaped _ retentions, tt)))))))));
          version_is = subst (λ rows. IsMarked 3 (λ t. rows)) (sym meta) refl;
        };
        sound = w.sound;
        topics = topics;
        entries = entries;
        subs = subs;
        acks = acks;
        deads = deads;
        counts = counts;
        authors = authors;
        retentions = retentions;
      };
}

-- while it is open, a crash leaves what was committed
pub durable_from : {S A E : Type 0} (g : Ghosts S) (mid last : Held S) (r : Result A E) → ((db : Trees) → IsTrue (g.view last.store).is_open → g.recovers last.store db → db ≡ (g.view last.store).committed)
    → OnOk r (IsTrue (state g mid).in_transaction × Shows (state g mid) (state g last) (state g mid).now (state g mid).now false × KeepsCounts (state g mid) (state g last) × ((state g last).marks ≡ []))
    → OnOk r ((db : Trees) → (state g last).may_leave db → db ≡ (state g last).now.trees)
durable_from g mid last (Ok x) settled h = λ db may. settled db h.1.is_open may ∙ ap (λ (d : Database). d.trees) (h.1.committed_is ∙ sym h.1.now_is)
durable_from g mid last (Err e) settled h = tt
