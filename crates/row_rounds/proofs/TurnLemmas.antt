-- What becomes of a topic where its tables are written in turn.
use Rattle.std.proofs.Common.{◌≡◌, ◌≢◌, inl, inr, ℕ, zero, suc, ◌+◌, Bool, true, false, List, [], ◌∷◌, map, drop, sym, subst, arith}
use Rattle.std.specs.Prelude.{◌==◌, if◌then◌else◌}
use Rattle.std.specs.List.{AllByRecursion}
use Rattle.std.proofs.lemmas.Bool.{cases_eq, eq-eqb, ne_eqb}
use Rattle.std.proofs.lemmas.List.Sorted.{IsPermutation-refl}
use Rattle.sqlite_trees.proofs.ListLemmas.{all_both, all_of}
use Rattle.sqlite.specs.Order.{Row}
use Rattle.sqlite.specs.Tree.{Trees}
use Rattle.sqlite.specs.Table.{Table}
use Rattle.position_core.specs.TopicName.{topic_text}
use Rattle.delivery_machine.specs.Places.{KeptTopic}
use Rattle.row_forms.specs.declared.change.Change.{Change}
use Rattle.row_forms.specs.Schema.{schema_9}
use Rattle.row_forms.specs.Cells.{TOPIC, ENTRY, SUB, ACK, DEAD, REDELIVERY, AUTHOR, RETENTION, bodies, of_topic, is_placed_below, not_below}
use Rattle.row_forms.specs.Forms.{TopicRows, topic_row, entry_rows}
use Rattle.row_forms.specs.Standing.{Has, HasIn, KeepsOthers}
use Rattle.row_forms.specs.Changes.{IsDifference, sub_cells, ack_cells, dead_cells, count_cells, author_cells, retention_cells}
use Rattle.row_tables.specs.Goes.{SpareOthers, Clears, Adds, Swaps}
use Rattle.row_tables.proofs.TableLemmas.{text_same}
use Rattle.row_rounds.specs.Rounds.{Via, MayCut, MayWriteTopic, Changes, Empties}
use Rattle.row_rounds.proofs.GoesLemmas.{spares_none, spares_then}
use Rattle.row_rounds.proofs.RowLemmas.{AreOf, Becomes, own_mapped, own_entries, becomes_none, becomes_these, becomes_same, becomes_by, becomes_more, becomes_cut, becomes_then}

-- the topic's rows in one table
abbrev BecomesIn : ℕ → List ℕ → List Row → Trees → Trees → Type 0
BecomesIn tree topic news old new = Becomes topic news (bodies tree (old tree)) (bodies tree (new tree))

-- ---- all tables, each by its tree

abbrev Rows : Type 0
Rows = ℕ → List Row

abbrev put : ℕ → List Row → Rows → Rows
put tree news rows t = if t == tree then news else rows t

-- the tables behind the first, which has no rows of topics
abbrev behind_first : List Table → List Table
behind_first [] = []
behind_first (t ∷ tables) = tables

abbrev tables : List Table
tables = behind_first schema_9.tables

-- in each table the topic's rows are these, and those of other topics are as they were
record BecomesAll (topic : List ℕ) (rows : Rows) (old new : Trees) : Type 0 where
  each : AllByRecursion (λ t. BecomesIn t.tree topic (rows t.tree) old new) tables

abbrev rows_from : TopicRows → Rows
rows_from r tree =
    if tree == TOPIC then r.topics else if tree == ENTRY then r.entries else if tree == SUB then r.subs else if tree == ACK then r.acks
    else if tree == DEAD then r.deads else if tree == REDELIVERY then r.counts else if tree == AUTHOR then r.authors else r.retentions

-- before the first step the rows are those that stand there
begins : (topic : List ℕ) (x : Trees) → BecomesAll topic (λ tree. of_topic topic (bodies tree (x tree))) x x
begins topic x = record { each = all_of (λ t. BecomesIn t.tree topic (of_topic topic (bodies t.tree (x t.tree))) x x) (λ t. becomes_same topic _ _ (IsPermutation-refl _)) tables }

begins_with : (topic : List ℕ) (rows : TopicRows) (x : Trees) → Has topic rows x → BecomesAll topic (rows_from rows) x x
begins_with topic rows x had = record {
  each = (
    becomes_same topic _ _ had.topics,
    (
      becomes_same topic _ _ had.entries,
      (
        becomes_same topic _ _ had.subs,
        (
          becomes_same topic _ _ had.acks,
          (
            becomes_same topic _ _ had.deads,
            (
              becomes_same topic _ _ had.counts,
              (
                becomes_same topic _ _ had.authors,
                (becomes_same topic _ _ had.retentions, tt),
              ),
            ),
          ),
        ),
      ),
    ),
  );
}

-- one table was written
next : (topic : List ℕ) (rows : Rows) (tree : ℕ) (news : List Row) (x y z : Trees) → BecomesAll topic rows x y → SpareOthers tree y z → BecomesIn tree topic news y z → BecomesAll topic (put tree news rows) x z
next topic rows tree news x y z before spare here = record {
  each = all_both (λ t. BecomesIn t.tree topic (rows t.tree) x y) (λ t. t.tree ≢ tree → z t.tree ≡ y t.tree) (λ t. BecomesIn t.tree topic (put tree news rows t.tree) x z)
      (λ t was same. elim (cases_eq t.tree tree) [
        | inl e ↦ written t e was
        | inr ne ↦ spared t ne was (same ne)
      ]) tables before.each spare.1;
}
  where
    written : (t : Table) → t.tree ≡ tree → BecomesIn t.tree topic (rows t.tree) x y → BecomesIn t.tree topic (put tree news rows t.tree) x z
    written t e was =
        let there : BecomesIn t.tree topic news y z = subst (λ n. BecomesIn n topic news y z) (sym e) here in
        subst (λ b. BecomesIn t.tree topic (if b then news else rows t.tree) x z) (sym (eq-eqb t.tree tree e)) (becomes_then topic _ _ _ _ _ was there)

    spared : (t : Table) → t.tree ≢ tree → BecomesIn t.tree topic (rows t.tree) x y → z t.tree ≡ y t.tree → BecomesIn t.tree topic (put tree news rows t.tree) x z
    spared t ne was same =
        let still : BecomesIn t.tree topic (rows t.tree) x z = subst (λ stored. Becomes topic (rows t.tree) (bodies t.tree (x t.tree)) (bodies t.tree stored)) (sym same) was in
        subst (λ b. BecomesIn t.tree topic (if b then news else rows t.tree) x z) (sym (ne_eqb t.tree tree ne)) still

abbrev rows_of : Rows → TopicRows
rows_of rows = record { topics = rows TOPIC; entries = rows ENTRY; subs = rows SUB; acks = rows ACK; deads = rows DEAD; counts = rows REDELIVERY; authors = rows AUTHOR; retentions = rows RETENTION }

all_told : (topic : List ℕ) (rows : Rows) (x z : Trees) → BecomesAll topic rows x z → Has topic (rows_of rows) z × KeepsOthers (topic ∷ []) x z
all_told topic rows x z all =
    let t = all.each.0 in
    let n = all.each.1.0 in
    let s = all.each.1.1.0 in
    let k = all.each.1.1.1.0 in
    let d = all.each.1.1.1.1.0 in
    let c = all.each.1.1.1.1.1.0 in
    let a = all.each.1.1.1.1.1.1.0 in
    let r = all.each.1.1.1.1.1.1.1.0 in (
      record { topics = t.0; entries = n.0; subs = s.0; acks = k.0; deads = d.0; counts = c.0; authors = a.0; retentions = r.0 },
      λ name but. record {
        topics = t.1 name but.0;
        entries = n.1 name but.0;
        subs = s.1 name but.0;
        acks = k.1 name but.0;
        deads = d.1 name but.0;
        counts = c.1 name but.0;
        authors = a.1 name but.0;
        retentions = r.1 name but.0;
      },
    )

-- ---- a topic is cleared

clears_next : (topic : List ℕ) (rows : Rows) (tree : ℕ) (x y z : Trees) → BecomesAll topic rows x y → Clears tree topic y z → BecomesAll topic (put tree [] rows) x z
clears_next topic rows tree x y z before cleared = next topic rows tree [] x y z before cleared.others (becomes_none topic _ _ cleared.rows)

abbrev pub ClearsLog : List ℕ → Trees → Trees → Type 0
ClearsLog topic = Via (Clears TOPIC topic) (Via (Clears ENTRY topic) (Via (Clears AUTHOR topic) (Clears RETENTION topic)))

abbrev pub ClearsSubscriptions : List ℕ → Trees → Trees → Type 0
ClearsSubscriptions topic = Via (Clears SUB topic) (Via (Clears ACK topic) (Via (Clears DEAD topic) (Clears REDELIVERY topic)))

pub empties_by : (topic : List ℕ) (x y z : Trees) → ClearsLog topic x y → ClearsSubscriptions topic y z → Empties topic x z
empties_by topic x y z p q =
    let t = clears_next topic _ TOPIC x x p.0 (begins topic x) p.1 in
    let n = clears_next topic _ ENTRY x p.0 p.2.0 t p.2.1 in
    let a = clears_next topic _ AUTHOR x p.2.0 p.2.2.0 n p.2.2.1 in
    let r = clears_next topic _ RETENTION x p.2.2.0 y a p.2.2.2 in
    let s = clears_next topic _ SUB x y q.0 r q.1 in
    let k = clears_next topic _ ACK x q.0 q.2.0 s q.2.1 in
    let d = clears_next topic _ DEAD x q.2.0 q.2.2.0 k q.2.2.1 in
    let c = clears_next topic _ REDELIVERY x q.2.2.0 z d q.2.2.2 in
    all_told topic _ x z c

-- ---- a change

swaps_next : (topic : List ℕ) (rows : Rows) (tree : ℕ) (olds news gone more : List Row) (x y z : Trees) → AreOf topic more → IsDifference olds news gone more → BecomesAll topic rows x y → HasIn tree topic olds y → Swaps tree gone more y z
    → BecomesAll topic (put tree news rows) x z
swaps_next topic rows tree olds news gone more x y z own d before had p =
    next topic rows tree news x y z before p.others (becomes_by topic olds news gone more own d (bodies tree (y tree)) (bodies tree (z tree)) had p.rows)

topic_spare : (other : Bool) (topic : List ℕ) (row : Row) (x z : Trees) → MayWriteTopic other topic row x z → SpareOthers TOPIC x z
topic_spare false topic row x z p = subst (SpareOthers TOPIC x) (sym p) (spares_none TOPIC x)
topic_spare true topic row x z p = spares_then TOPIC x p.0 z p.1.others p.2.others

topic_becomes : (other : Bool) (topic : List ℕ) (row : Row) (olds : List Row) → AreOf topic (row ∷ []) → (x z : Trees) → HasIn TOPIC topic olds x → MayWriteTopic other topic row x z
    → BecomesIn TOPIC topic (if other then row ∷ [] else olds) x z
topic_becomes false topic row olds own x z had p = subst (λ db. BecomesIn TOPIC topic olds x db) (sym p) (becomes_same topic olds (bodies TOPIC (x TOPIC)) had)
topic_becomes true topic row olds own x z had p = becomes_these topic (row ∷ []) (bodies TOPIC (x TOPIC)) (bodies TOPIC (p.0 TOPIC)) (bodies TOPIC (z TOPIC)) own p.1.rows p.2.rows

cut_spare : (went : ℕ) (topic : List ℕ) (end : ℕ) (x z : Trees) → MayCut went topic end x z → SpareOthers ENTRY x z
cut_spare zero topic end x z p = subst (SpareOthers ENTRY x) (sym p) (spares_none ENTRY x)
cut_spare (suc went) topic end x z p = p.others

cut_becomes : (went : ℕ) (topic : List ℕ) (end : ℕ) (olds : List Row) (x z : Trees) → HasIn ENTRY topic olds x → MayCut went topic end x z
    → BecomesIn ENTRY topic (if went == 0 then olds else not_below end olds) x z
cut_becomes zero topic end olds x z had p = subst (λ db. BecomesIn ENTRY topic olds x db) (sym p) (becomes_same topic olds (bodies ENTRY (x ENTRY)) had)
cut_becomes (suc went) topic end olds x z had p =
    subst (λ b. BecomesIn ENTRY topic (if b then olds else not_below end olds) x z) (sym (ne_eqb (suc went) 0 (λ e. omega (arith, e)))) (becomes_cut topic (is_placed_below end) olds (bodies ENTRY (x ENTRY)) (bodies ENTRY (z ENTRY)) had p.rows)

module _ (kept : KeptTopic) (change : Change) where
  abbrev name : List ℕ
  name = topic_text kept.name

  abbrev more : List Row
  more = entry_rows name (kept.gone + change.from) (drop change.from kept.log)

  abbrev pub WritesMessages : Trees → Trees → Type 0
  WritesMessages = Via (MayWriteTopic change.topic name (topic_row kept)) (Via (MayCut change.went name kept.gone) (Adds ENTRY more))

  abbrev WritesSubscriptions : Trees → Trees → Type 0
  WritesSubscriptions = Via (Swaps SUB (map (sub_cells name) change.subs.gone.items) (map (sub_cells name) change.subs.news.items))
      (Via (Swaps ACK (map (ack_cells name) change.acks.gone.items) (map (ack_cells name) change.acks.news.items)) (Via (Swaps DEAD (map (dead_cells name) change.deads.gone.items) (map (dead_cells name) change.deads.news.items))
      (Swaps REDELIVERY (map (count_cells name) change.counts.gone.items) (map (count_cells name) change.counts.news.items))))

  abbrev pub WritesDifferences : Trees → Trees → Type 0
  WritesDifferences = Via WritesSubscriptions
      (Via (Swaps AUTHOR (map (author_cells name) change.authors.gone.items) (map (author_cells name) change.authors.news.items)) (Swaps RETENTION (map (retention_cells name) change.retentions.gone.items) (map (retention_cells name) change.retentions.news.items)))

  pub changes_by : (x y z : Trees) → WritesMessages x y → WritesDifferences y z → Changes kept change x z
  changes_by x y z p q olds news had leads =
      let stay = if change.went == 0 then olds.entries else not_below kept.gone olds.entries in
      let b = p.0 in
      let c = p.2.0 in
      let u = q.0 in
      let t = next name (rows_from olds) TOPIC news.topics x x b (begins_with name olds x had) (topic_spare change.topic name (topic_row kept) x b p.1)
      (subst (λ rows. BecomesIn TOPIC name rows x b) (sym leads.topics) (topic_becomes change.topic name (topic_row kept) olds.topics (text_same name, tt) x b had.topics p.1)) in
      let l = next name _ ENTRY stay x b c t (cut_spare change.went name kept.gone b c p.2.1) (cut_becomes change.went name kept.gone olds.entries b c t.each.1.0.0 p.2.1) in
      let n = next name _ ENTRY news.entries x c y l p.2.2.others
      (subst (λ rows. BecomesIn ENTRY name rows c y) (sym leads.entries) (becomes_more name stay more (own_entries name (kept.gone + change.from) (drop change.from kept.log)) (bodies ENTRY (c ENTRY)) (bodies ENTRY (y ENTRY)) l.each.1.0.0 p.2.2.rows)) in
      let s = swaps_next name _ SUB olds.subs news.subs _ _ x y q.1.0 (own_mapped name (sub_cells name) (λ r. text_same name) change.subs.news.items) leads.subs n n.each.1.1.0.0 q.1.1 in
      let k = swaps_next name _ ACK olds.acks news.acks _ _ x q.1.0 q.1.2.0 (own_mapped name (ack_cells name) (λ r. text_same name) change.acks.news.items) leads.acks s s.each.1.1.1.0.0 q.1.2.1 in
      let d = swaps_next name _ DEAD olds.deads news.deads _ _ x q.1.2.0 q.1.2.2.0 (own_mapped name (dead_cells name) (λ r. text_same name) change.deads.news.items) leads.deads k k.each.1.1.1.1.0.0 q.1.2.2.1 in
      let e = swaps_next name _ REDELIVERY olds.counts news.counts _ _ x q.1.2.2.0 u (own_mapped name (count_cells name) (λ r. text_same name) change.counts.news.items) leads.counts d d.each.1.1.1.1.1.0.0 q.1.2.2.2 in
      let a = swaps_next name _ AUTHOR olds.authors news.authors _ _ x u q.2.0 (own_mapped name (author_cells name) (λ r. text_same name) change.authors.news.items) leads.authors e e.each.1.1.1.1.1.1.0.0 q.2.1 in
      let r = swaps_next name _ RETENTION olds.retentions news.retentions _ _ x q.2.0 z (own_mapped name (retention_cells name) (λ r. text_same name) change.retentions.news.items) leads.retentions a a.each.1.1.1.1.1.1.1.0.0 q.2.2 in
      all_told name _ x z r
