-- Where the reader finds no snapshot, none that is read back stands; and one that stands is what it finds.
use Rattle.std.proofs.Common.{◌≡◌, true≢false, MatchOption, [], length, sym, subst, ap, ◌∙◌, arith, inl, inr}
use Rattle.std.specs.Prelude.{IsTrue, Bool, false, ℕ, List, ◌∷◌}
use Rattle.std.specs.List.{All}
use Rattle.std.proofs.lemmas.List.Elements.{All-weaker}
use Rattle.std.proofs.lemmas.List.Sorted.{IsPermutation-sym, IsPermutation-trans, length_permutation}
use Rattle.sqlite.specs.Tree.{Trees}
use Rattle.position_core.specs.TopicName.{same_topic, topic_text}
use Rattle.position_core.specs.declared.topic_name.TopicName.{TopicName}
use Rattle.delivery_machine.specs.State.{DeadLetter, State}
use Rattle.delivery_machine.specs.Snapshot.{restarted, snapshot_of}
use Rattle.delivery_machine.specs.Places.{KeptPlaces, KeptTopic, MayRestart, snapshot_in}
use Rattle.position_core.specs.declared.message.Entry.{Entry}
use Rattle.sqlite.specs.Order.{Row}
use Rattle.row_forms.specs.Forms.{AreRowsOf, Span, retention_rows, span_of}
use Rattle.row_forms.specs.Cells.{ENTRY, TOPIC, bodies, of_topic}
use Rattle.row_forms.specs.Standing.{HasIn, HasNone, Stands}
use Rattle.row_tables.specs.declared.side_rows.SideRows.{SideRows}
use Rattle.row_tables.specs.Sides.{AreSidesOf, AreSorted}
use Rattle.row_reading.specs.declared.retention_rows.Front.{Front}
use Rattle.row_reading.specs.declared.topic_row.Head.{Head}
use Rattle.row_reading.specs.Reading.{IsFrontIn, IsHead, IsHeadIn, IsLedgerSize, IsNamed, IsReadBack, IsReadableLog, MayBeTold, put, rows_with}
use Rattle.row_reading.proofs.Whole.{has_front, has_head, one_head, readable_log, same_front}
use Rattle.row_store.specs.Found.{HasLog}
use Rattle.row_reading.specs.Telling.{IsTold}
use Rattle.row_reading.proofs.SortedRows.{what_stands_is_read}
use Rattle.row_reading.proofs.OneSnapshot.{one_stands}
use Rattle.row_reading.proofs.Told.{one_log}
use Rattle.stored_cell.specs.Held.{HasNothing}
use Rattle.stored_cell.specs.Noted.{IsOfNow, Noted}
use Rattle.row_store.specs.Opened.{GoesOnFrom, WhatRestsIsFound}
use Rattle.row_store.specs.Keeping.{NoneStands}

told : (kept : KeptTopic) → MayRestart kept → MayBeTold kept → IsTold kept
told kept may may_be = record {
  may = may;
  targets =
      All-weaker (λ (sub : KeptPlaces). All (λ (d : DeadLetter). IsNamed d.target × (same_topic d.target kept.name ≡ false)) sub.dead) (λ (sub : KeptPlaces). All (λ (d : DeadLetter). IsNamed d.target) sub.dead)
      (λ sub both. All-weaker (λ (d : DeadLetter). IsNamed d.target × (same_topic d.target kept.name ≡ false)) (λ (d : DeadLetter). IsNamed d.target) (λ d b. b.0) sub.dead both) kept.subscriptions may_be.targets;
}

-- the rows of a snapshot that stands, as they are read beside its messages, and those messages
its_rows : (kept : KeptTopic) (name : TopicName) (topic : List ℕ) (sides : SideRows) (db : Trees) → topic ≡ topic_text name → IsReadBack kept → kept.name ≡ name → Stands kept db → AreSidesOf topic db sides → AreSorted sides
    → AreRowsOf kept (rows_with topic (span_of kept) sides) × HasLog topic kept.gone kept.log db
its_rows kept name topic sides db is back named stands these sorted =
    let same : topic_text kept.name ≡ topic = ap topic_text named ∙ sym is in
    let read = what_stands_is_read kept db (told kept back.may back.told) stands in
    let messages : HasLog (topic_text kept.name) kept.gone kept.log db = subst (λ l. HasIn ENTRY (topic_text kept.name) l db) stands.1.entries stands.2.entries in
    (subst (λ t. AreSidesOf t db sides → AreRowsOf kept (rows_with t (span_of kept) sides)) same (λ those. read.sides sides those sorted) these, subst (λ t. HasLog t kept.gone kept.log db) same messages)

module _ (name : TopicName) (topic : List ℕ) (sides : SideRows) (db : Trees) (is : topic ≡ topic_text name) (these : AreSidesOf topic db sides) where
  -- none stands where the topic has no row of its own that is such a row, or more than one of what is gone
  pub none_headed : ((row : Row) (head : Head) (front : Front) → sides.topics.items ≡ row ∷ [] → IsHead row head → IsLedgerSize head.ledger_size → IsFrontIn sides.retentions.items front → ⊥) → AreSorted sides → NoneStands name db
  none_headed none sorted kept back named stands =
      let rows = (its_rows kept name topic sides db is back named stands these sorted).0 in
      let h = has_head kept topic sides.topics.items back rows.topics in
      let front = has_front kept topic sides.retentions.items back (rows.retentions ∙ ap (λ t. retention_rows t kept.gone kept.retention) (ap topic_text named ∙ sym is)) in
      none h.1.row h.0 _ h.1.one h.1.says (subst IsLedgerSize (sym h.1.size) back.size) front

  -- nor where it has none at all
  pub none_of_its_own : sides.topics.items ≡ [] → AreSorted sides → NoneStands name db
  none_of_its_own none = none_headed (λ row head front one says size shown. never row (sym none ∙ one))
    where
      never : (row : Row) → [] ≡ row ∷ [] → ⊥
      never row e = cc

  -- as many of one that stands are gone as was read
  same_gone : (front : Front) → IsFrontIn sides.retentions.items front → AreSorted sides → (kept : KeptTopic) → IsReadBack kept → kept.name ≡ name → Stands kept db → front.gone ≡ kept.gone
  same_gone front shown sorted kept back named stands =
      let rows = (its_rows kept name topic sides db is back named stands these sorted).0 in
      (same_front kept name front sides.retentions.items named shown (ap (λ t. put t sides.retentions.items) (sym is) ∙ rows.retentions)).0

  -- the messages of one that stands are such as a log is read of
  pub none_logged : (head : Head) (front : Front) (whole : Bool) → IsHeadIn sides.topics.items head → IsFrontIn sides.retentions.items front → whole ≡ false → ((all : List Entry) → IsReadableLog head.ledger_size head.ledger all → HasLog topic front.gone all db → IsTrue whole)
      → AreSorted sides → NoneStands name db
  none_logged head front whole (row, one, says) shown unread reads sorted kept back named stands =
      let its = its_rows kept name topic sides db is back named stands these sorted in
      let h = has_head kept topic sides.topics.items back its.0.topics in
      let said = one_head sides.topics.items row h.0 head kept h.1 one says in
      let read : IsReadableLog head.ledger_size head.ledger kept.log =
      subst (λ n. IsReadableLog n head.ledger kept.log) (sym said.0) (subst (λ n. IsReadableLog kept.ledger_size n kept.log) (sym said.1) (readable_log kept back)) in
      let gone : kept.gone ≡ front.gone = sym (same_gone front shown sorted kept back named stands) in
      true≢false (sym (reads kept.log read (subst (λ n. HasLog topic n kept.log db) gone its.1)) ∙ unread)

  -- and its rows are those that were read
  pub none_whole : (front : Front) (log : List Entry) → IsFrontIn sides.retentions.items front → HasLog topic front.gone log db
      → ((kept : KeptTopic) → IsReadBack kept → kept.name ≡ name → AreRowsOf kept (rows_with (topic_text name) (record { gone = front.gone; log = log }) sides) → ⊥) → AreSorted sides → NoneStands name db
  none_whole front log shown has none sorted kept back named stands =
      let its = its_rows kept name topic sides db is back named stands these sorted in
      let gone : kept.gone ≡ front.gone = sym (same_gone front shown sorted kept back named stands) in
      let here : HasLog topic front.gone kept.log db = subst (λ n. HasLog topic n kept.log db) gone its.1 in
      let same : kept.log ≡ log = one_log topic front.gone kept.log log (IsPermutation-trans _ _ _ here (IsPermutation-sym _ _ has)) in
      let spans : span_of kept ≡ record { gone = front.gone; log = log } = λ i. record { gone = gone i; log = same i } in
      none kept back named (subst (λ t. AreRowsOf kept (rows_with t (record { gone = front.gone; log = log }) sides)) is (subst (λ (span : Span). AreRowsOf kept (rows_with topic span sides)) spans its.0))

-- a topic without rows has no snapshot that stands
nothing_stands : (kept : KeptTopic) (db : Trees) → HasNone (topic_text kept.name) db → Stands kept db → ⊥
nothing_stands kept db none (rows, are, has) =
    let here = of_topic (topic_text kept.name) (bodies TOPIC (db TOPIC)) in
    let zero : length here ≡ 0 = length_permutation [] here none.topics in
    let one : length here ≡ 1 = length_permutation rows.topics here has.topics ∙ ap length are.topics in
    absurd (omega (arith, zero, one))

-- no snapshot stands of a topic without rows
pub nothing_found : (name : TopicName) (db : Trees) → HasNone (topic_text name) db → (kept : KeptTopic) → IsReadBack kept → kept.name ≡ name → Stands kept db → ⊥
nothing_found name db none kept back named stands = nothing_stands kept db (subst (λ (n : TopicName). HasNone (topic_text n) db) (sym named) none) stands

-- what was loaded is the snapshot that stands, where that is read back
pub is_found : (name : TopicName) (db : Trees) (read loaded : KeptTopic) → loaded ≡ read → read.name ≡ name → Stands read db → MayRestart read → MayBeTold read
    → (kept : KeptTopic) → IsReadBack kept → kept.name ≡ name → Stands kept db → loaded ≡ kept
is_found name db read loaded same its there may may_be kept back named stands =
    same ∙ one_stands read kept db (told read may may_be) (told kept back.may back.told) (its ∙ sym named) there stands

-- ---- a topic at rest

goes_on : (s : State) (kept stored : KeptTopic) → kept ≡ stored → IsOfNow s stored → GoesOnFrom s (restarted (snapshot_in kept))
goes_on s kept stored same (inl now) = inl (ap (λ (k : KeptTopic). restarted (snapshot_in k)) same ∙ ap restarted now)
goes_on s kept stored same (inr opened) = inr (ap (λ (k : KeptTopic). snapshot_of (restarted (snapshot_in k))) same ∙ opened)

pub what_rests_is_found : WhatRestsIsFound
what_rests_is_found h n kept db rests stored told_n stands_n told_k named stands_k =
    goes_on h.cell.state kept n.kept (one_stands kept n.kept db told_k told_n named stands_k stands_n)
    (subst (λ o. MatchOption o (HasNothing h.cell.state) (λ (x : Noted). IsOfNow h.cell.state x.kept)) stored rests.rows)
