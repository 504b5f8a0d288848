-- What a store leads to, for any connection.
use Rattle.std.proofs.Common.{◌≡◌, ◌≤◌, ◌+◌, ℕ, Bool, true, false, List, [], ◌∷◌, length, map, slice_index_or, inl, inr, ◌⊎◌, refl, ap, sym, subst, ◌∙◌, arith}
use Rattle.std.proofs.lemmas.List.{length-map}
use Rattle.std.specs.Prelude.{All, IsTrue, ◌&&◌, Option, IfSome, Result, Ok, Err, IfOk}
use Rattle.position_core.specs.TopicName.{topic_text}
use Rattle.position_core.specs.declared.topic_name.TopicName.{TopicName}
use Rattle.sqlite.specs.declared.types.Value.TheVariants.{Text as Words}
use Rattle.sqlite.specs.Order.{Row}
use Rattle.sqlite_trees.specs.declared.store.Store.{Ghosts}
use Rattle.sqlite_trees.specs.View.{doubt}
use Rattle.sqlite.specs.Tree.{Trees}
use Rattle.sqlite.specs.Effect.{Database}
use Rattle.sqlite.specs.State.{State, HasCleanDisk, Survives}
use Rattle.sqlite.specs.Held.{Held, state}
use Rattle.sqlite.proofs.StateLemmas.{survives_weaker}
use Rattle.delivery_machine.specs.Places.{KeptTopic}
use Rattle.position_core.specs.declared.message.Entry.{Entry}
use Rattle.row_forms.specs.Cells.{TOPIC, SUB, ACK, DEAD, REDELIVERY, AUTHOR, RETENTION}
use Rattle.row_forms.specs.Forms.{TopicRows, AreRowsOf, Span, no_rows}
use Rattle.row_forms.specs.Standing.{Has, HasIn, HasNone, Stands}
use Rattle.row_tables.specs.declared.side_rows.SideRows.{SideRows}
use Rattle.row_tables.specs.Pieces.{has_others}
use Rattle.row_tables.specs.Sides.{AreSidesOf, AreSorted}
use Rattle.row_reading.specs.Reading.{rows_with}
use Rattle.row_store.specs.Found.{HasLog}
use Rattle.row_store.proofs.Messages.{all_below, none_below}
use Rattle.row_tables.specs.Goes.{Saves}
use Rattle.row_tables.specs.Ready.{IsReady}
use Rattle.row_rounds.specs.declared.saving.Write.{Write}
use Rattle.row_rounds.specs.Rounds.{Fits, Rounds, StandAll}
use Rattle.stored_cell.specs.Noted.{Noted, StandsAmong, ToStore, all_rows, is_shown}
use Rattle.stored_cell.proofs.Letters.{all_of_map}
use Rattle.row_store.specs.Begun.{HasLogBelow, HasSpan, ReadTo, StandsSoFar, span_to}
use Rattle.row_store.specs.Keeping.{IsKept, IsReadOn, IsSettled, StoresAll, kepts, stored_in}
use Rattle.row_store.proofs.Standing.{stores_all}

module _ {S : Type 0} (g : Ghosts S) (old new : Held S) (failed : Bool) (known : List KeptTopic) (writes : List Write)
    (kept : IsKept g old failed known) (working : failed ≡ false)
    (fits : (db : Trees) → All (λ (k : KeptTopic). Stands k db) known → All (Fits db) writes)
    (less : doubt (state g old).is_clean ≤ doubt (state g new).is_clean) where
  -- a committed store
  pub went : Saves (Rounds writes) (state g old) (state g new) → HasCleanDisk (state g new) → IsReady (state g new).now × StandAll writes (state g old).now.trees (state g new).now.trees
  went saves clean =
      let early : HasCleanDisk (state g old) = omega (arith, less, clean) in
      let after = saves.does (kept.ready working early saves.was_shown) in
      (after.0, after.1 (fits _ (kept.known working early saves.was_shown)))

  -- and what a crash leaves of one
  pub leaves : (kepts : List KeptTopic) → map (λ (w : Write). w.snapshot) writes ≡ kepts
      → Survives (state g old) (state g new) (λ db. IsTrue (state g old).is_open × (IsReady (state g old).now → Rounds writes (state g old).now.trees db))
      → Survives (state g old) (state g new) (λ db. IsTrue (state g old).is_open × StoresAll kepts (state g old).now.trees db)
  leaves kepts same left = survives_weaker (state g old) (state g new) _ _ (λ clean db made.
      let early : HasCleanDisk (state g old) = omega (arith, less, clean) in
      (made.0, stores_all writes kepts (state g old).now.trees db same (made.1 (kept.ready working early made.0) (fits _ (kept.known working early made.0))))) left

-- what stands in a database stands among its rows
pub among : (kept : KeptTopic) (db : Trees) → Stands kept db → StandsAmong kept (all_rows db)
among kept db stands = (
  stands.0,
  stands.1,
  record { topics = stands.2.topics; entries = stands.2.entries; subs = stands.2.subs; acks = stands.2.acks; deads = stands.2.deads; counts = stands.2.counts; authors = stands.2.authors; retentions = stands.2.retentions },
)

all_among : (kepts : List KeptTopic) (db : Trees) → All (λ (k : KeptTopic). Stands k db) kepts → All (λ (k : KeptTopic). StandsAmong k (all_rows db)) kepts
all_among kepts db stand n d lt = among (slice_index_or kepts n d) db (stand n d lt)

-- what is marked stands among the rows
pub marked_among : (marks : List Noted) (kepts : List KeptTopic) (db : Trees) → map (λ (n : Noted). n.kept) marks ≡ kepts → All (λ (k : KeptTopic). Stands k db) kepts → All (λ (n : Noted). StandsAmong n.kept (all_rows db)) marks
marked_among marks kepts db same stand =
    all_of_map (λ (k : KeptTopic). StandsAmong k (all_rows db)) (λ (n : Noted). n.kept) marks (subst (All (λ (k : KeptTopic). StandsAmong k (all_rows db))) (sym same) (all_among kepts db stand))

each_stored : (marks : List Noted) (s : State) → map (λ (n : Noted). record { kept = n.kept; rows = all_rows s.committed.trees; clean = is_shown s }) marks ≡ map (stored_in s) (map (λ (n : Noted). n.kept) marks)
each_stored [] s = refl
each_stored (n ∷ marks) s = ap (λ l. stored_in s n.kept ∷ l) (each_stored marks s)

-- the proofs that are made are those of what was to be stored
pub all_stored : (marks : List Noted) (kepts : List KeptTopic) (rows : TopicRows) (clean : Bool) (s : State) → rows ≡ all_rows s.committed.trees → clean ≡ is_shown s → map (λ (n : Noted). n.kept) marks ≡ kepts
    → map (λ (n : Noted). record { kept = n.kept; rows = rows; clean = clean }) marks ≡ map (stored_in s) kepts
all_stored marks kepts rows clean s rows_are clean_is same =
    ap (λ (r : TopicRows). map (λ (n : Noted). record { kept = n.kept; rows = r; clean = clean }) marks) rows_are
    ∙ (ap (λ (b : Bool). map (λ (n : Noted). record { kept = n.kept; rows = all_rows s.committed.trees; clean = b }) marks) clean_is
    ∙ (each_stored marks s ∙ ap (map (stored_in s)) same))

both_true : (a b : Bool) → (a && b) ≡ true → (a ≡ true) × (b ≡ true)
both_true true b h = (refl, h)
both_true false b h = absurd cc

-- a database that is shown has a clean disk, and is open
pub shown_is : (s : State) → is_shown s ≡ true → HasCleanDisk s × IsTrue s.is_open
unfolding doubt
shown_is s h = let b = both_true s.is_clean s.is_open h in (ap doubt b.0, subst IsTrue (sym b.1) refl)

-- a keeper whose database was only read
pub kept_through : {S : Type 0} (g : Ghosts S) (old new : Held S) (failed : Bool) (known : List KeptTopic) → IsKept g old failed known → new.in_transaction ≡ false
    → doubt (state g old).is_clean ≤ doubt (state g new).is_clean
    → (HasCleanDisk (state g new) → IsTrue (state g new).is_open → (state g new).now ≡ (state g old).now)
    → (HasCleanDisk (state g new) → IsTrue (state g new).is_open → IsTrue (state g old).is_open)
    → (HasCleanDisk (state g new) → (db : Trees) → (state g new).may_leave db → (state g old).may_leave db ⊎ ⊥)
    → IsKept g new failed known
kept_through g old new failed known kept autocommit less same was leaves_less = record {
  autocommit = autocommit;
  ready = λ working clean shown.
      let early : HasCleanDisk (state g old) = omega (arith, less, clean) in
      subst IsReady (sym (same clean shown)) (kept.ready working early (was clean shown));
  known = λ working clean shown.
      let early : HasCleanDisk (state g old) = omega (arith, less, clean) in
      subst (λ (db : Database). All (λ (k : KeptTopic). Stands k db.trees) known) (sym (same clean shown)) (kept.known working early (was clean shown));
  settled = λ working clean shown db may.
      let early : HasCleanDisk (state g old) = omega (arith, less, clean) in
      kept.settled working early (was clean shown) db (before (leaves_less clean db may)) ∙ sym (ap (λ (d : Database). d.trees) (same clean shown));
  one = λ working clean one other left right.
      let early : HasCleanDisk (state g old) = omega (arith, less, clean) in
      kept.one working early one other (before (leaves_less clean one left)) (before (leaves_less clean other right));
}
  where
    before : {A : Type 0} → A ⊎ ⊥ → A
    before (inl a) = a
    before (inr none) = absurd none

-- and what was read so far of a topic, where its database was only read since
pub read_through : {S : Type 0} (g : Ghosts S) (old new : Held S) (failed : Bool) (reading : Option ReadTo) → IsReadOn g old failed reading
    → doubt (state g old).is_clean ≤ doubt (state g new).is_clean
    → (HasCleanDisk (state g new) → IsTrue (state g new).is_open → (state g new).now ≡ (state g old).now)
    → (HasCleanDisk (state g new) → IsTrue (state g new).is_open → IsTrue (state g old).is_open)
    → IsReadOn g new failed reading
read_through g old new failed reading stands less same was working clean shown =
    let early : HasCleanDisk (state g old) = omega (arith, less, clean) in
    subst (λ (db : Database). IfSome reading (StandsSoFar db.trees)) (sym (same clean shown)) (stands working early (was clean shown))

-- and so all that such a keeper holds true, with what it says beside that
pub holds_through : {S P : Type 0} (g : Ghosts S) (old new : Held S) (failed : Bool) (known : List KeptTopic) (reading : Option ReadTo) → IsKept g old failed known → P → IsReadOn g old failed reading
    → new.in_transaction ≡ false → Survives (state g old) (state g new) (λ _. ⊥)
    → (HasCleanDisk (state g new) → IsTrue (state g new).is_open → (state g new).now ≡ (state g old).now)
    → (HasCleanDisk (state g new) → IsTrue (state g new).is_open → IsTrue (state g old).is_open)
    → IsKept g new failed known × P × IsReadOn g new failed reading
holds_through g old new failed known reading kept beside read autocommit survives same was =
    (kept_through g old new failed known kept autocommit survives.clean same was survives.crash, beside, read_through g old new failed reading read survives.clean same was)

-- over a clean disk a crash leaves what stood before, or that
pub left_from : (old new : State) (kepts : List KeptTopic) → (HasCleanDisk old → IsSettled old)
    → Survives old new (λ db. IsTrue old.is_open × StoresAll kepts old.now.trees db)
    → IsTrue old.is_open → HasCleanDisk new → (db : Trees) → new.may_leave db → (db ≡ old.now.trees) ⊎ StoresAll kepts old.now.trees db
left_from old new kepts settled survives shown clean db may = by (survives.crash clean db may)
  where
    early : HasCleanDisk old
    early = omega (arith, survives.clean, clean)

    by : old.may_leave db ⊎ (IsTrue old.is_open × StoresAll kepts old.now.trees db) → (db ≡ old.now.trees) ⊎ StoresAll kepts old.now.trees db
    by (inl was) = inl (settled early db was)
    by (inr all) = inr all.1

-- the rows that were read of the topic are those of the snapshot that they show
pub read_stands : (kept : KeptTopic) (name : TopicName) (text : List ℕ) (span : Span) (sides : SideRows) (db : Trees) → text ≡ topic_text name → kept.name ≡ name → AreRowsOf kept (rows_with (topic_text name) span sides) → AreSidesOf text db sides → HasLog text span.gone span.log db → Stands kept db
read_stands kept name text span sides db is same are these messages = (
  rows_with (topic_text name) span sides,
  are,
  subst (λ (n : TopicName). Has (topic_text n) (rows_with (topic_text name) span sides) db) (sym same)
      (subst (λ t. Has t (rows_with t span sides) db) is
      (record { topics = these.topics; entries = messages; subs = these.subs; acks = these.acks; deads = these.deads; counts = these.counts; authors = these.authors; retentions = these.retentions })),
)

-- where none was read there is none
pub none_read : (name : TopicName) (text : List ℕ) (sides : SideRows) (db : Trees) → text ≡ topic_text name → (sides.topics.items ≡ []) × (sides.subs.items ≡ []) × (sides.acks.items ≡ []) × (sides.deads.items ≡ []) × (sides.counts.items ≡ []) × (sides.authors.items ≡ []) × (sides.retentions.items ≡ [])
    → AreSidesOf text db sides → has_others text 0 0 db ≡ false → HasNone (topic_text name) db
none_read name text sides db is none these no_others =
    let put : List Row → List Row = map (λ (r : Row). Words text ∷ r) in
    let here : Has text no_rows db = record {
      topics = subst (λ l. HasIn TOPIC text (put l) db) none.0 these.topics;
      entries = all_below text 0 0 [] db (none_below text 0 db) no_others;
      subs = subst (λ l. HasIn SUB text (put l) db) none.1 these.subs;
      acks = subst (λ l. HasIn ACK text (put l) db) none.2 these.acks;
      deads = subst (λ l. HasIn DEAD text (put l) db) none.3 these.deads;
      counts = subst (λ l. HasIn REDELIVERY text (put l) db) none.4 these.counts;
      authors = subst (λ l. HasIn AUTHOR text (put l) db) none.5 these.authors;
      retentions = subst (λ l. HasIn RETENTION text (put l) db) none.6 these.retentions;
    } in
    subst (λ t. Has t no_rows db) is here

-- what was read of a topic at first stands
pub begun_stands : (r : ReadTo) (name : TopicName) (topic : List ℕ) (sides : SideRows) (db : Trees) → topic ≡ topic_text name → (r.name ≡ name) × (r.sides ≡ sides) × (r.log ≡ []) → AreSidesOf topic db sides → AreSorted sides → StandsSoFar db r
begun_stands r name topic sides db is begun these sorted = record {
  sides = subst (λ (s : SideRows). AreSidesOf (topic_text r.name) db s) (sym begun.1) (subst (λ t. AreSidesOf t db sides) (is ∙ ap topic_text (sym begun.0)) these);
  sorted = subst AreSorted (sym begun.1) sorted;
  below = subst (λ (l : List Entry). HasSpan (topic_text r.name) (record { gone = r.front.gone; log = l }) db) (sym begun.2)
      (subst (λ n. HasLogBelow (topic_text r.name) r.front.gone n [] db) (let here : r.front.gone ≡ r.front.gone + 0 = omega arith in here) (none_below (topic_text r.name) r.front.gone db));
}

-- and what was read of it with one piece more
pub goes_on : (old new : ReadTo) (topic : List ℕ) (db : Trees) → topic ≡ topic_text old.name → new.name ≡ old.name → new.sides ≡ old.sides → StandsSoFar db old
    → (HasSpan topic (span_to old) db → HasSpan topic (span_to new) db) → StandsSoFar db new
goes_on old new topic db is named same stands more = record {
  sides = subst (λ (s : SideRows). AreSidesOf (topic_text new.name) db s) (sym same) (subst (λ (n : TopicName). AreSidesOf (topic_text n) db old.sides) (sym named) stands.sides);
  sorted = subst AreSorted (sym same) stands.sorted;
  below = subst (λ t. HasSpan t (span_to new) db) (is ∙ ap topic_text (sym named)) (more (subst (λ t. HasSpan t (span_to old) db) (sym is) stands.below));
}

-- what holds of each result where two things do, holds of it under both
pub ok_under : {T E A B : Type 0} (r : Result T E) (P : T → Type 0) → (A → B → IfOk r P) → IfOk r (λ x. A → B → P x)
ok_under (Ok x) P h = h
ok_under (Err e) P h = tt

-- there are as many marks as parts
pub as_many : (marks : List Noted) (parts : List ToStore) → map (λ (n : Noted). n.kept) marks ≡ kepts parts → length marks ≡ length parts
as_many marks parts same = sym (length-map marks (λ (n : Noted). n.kept)) ∙ (ap length same ∙ length-map parts (λ (part : ToStore). part.kept))
