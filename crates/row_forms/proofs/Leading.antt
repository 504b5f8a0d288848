-- From the differences of the tables to a change of all rows.
use Rattle.std.proofs.Common.{◌≡◌, ℕ, ◌+◌, ◌-◌, ◌≤◌, Bool, true, false, Option, None, List, [], ◌∷◌, ◌++◌, length, length-drop, drop, refl, ap, ap₂, sym, ◌∙◌, arith, length-append}
use Rattle.std.specs.Prelude.{◌==◌, not, if◌then◌else◌, IsTrue}
use Rattle.position_core.specs.declared.message.Entry.{Entry}
use Rattle.position_core.specs.TopicName.{topic_text}
use Rattle.sqlite.specs.Order.{Row}
use Rattle.delivery_machine.specs.Places.{KeptTopic}
use Rattle.row_forms.specs.declared.change.Change.{Change}
use Rattle.row_forms.specs.Changes.{Leads}
use Rattle.delivery_machine.proofs.Deciding.{number_is}
use Rattle.row_forms.proofs.BelowPlaces.{beyond_are}
use Rattle.row_forms.specs.Cells.{not_below}
use Rattle.row_forms.specs.Forms.{AreAckRows, AreRowsOf, Span, TopicRows, author_rows, count_rows, dead_rows, entry_row, entry_rows, no_rows, retention_rows, span_of, sub_rows, topic_row}
use Rattle.row_forms.specs.declared.change.RetentionRow.{RetentionRow}
use Rattle.row_forms.specs.Parts.{AcksDiffer, AuthorsDiffer, CountsDiffer, DeadsDiffer, IsLater, RetentionsDiffer, SubsDiffer, row_in}

pub rows_from : (topic : List ℕ) (from : ℕ) (first second : List Entry) → entry_rows topic from (first ++ second) ≡ entry_rows topic from first ++ entry_rows topic (from + length first) second
rows_from topic from [] second = ap (λ n. entry_rows topic n second) (omega arith)
rows_from topic from (e ∷ first) second =
    ap (λ rows. entry_row topic from e ∷ rows) (rows_from topic (from + 1) first second ∙ ap (λ n. entry_rows topic (from + 1) first ++ entry_rows topic n second) (omega arith))

after_first : (first second : List Entry) → drop (length first) (first ++ second) ≡ second
after_first [] second = refl
after_first (e ∷ first) second = after_first first second

-- the rows of the snapshot, of which those of runs are these
abbrev rows_of : KeptTopic → List Row → TopicRows
rows_of kept acks =
    let topic = topic_text kept.name in
    record {
      topics = topic_row kept ∷ [];
      entries = entry_rows topic kept.gone kept.log;
      subs = sub_rows topic kept.subscriptions;
      acks = acks;
      deads = dead_rows topic (span_of kept) kept.subscriptions;
      counts = count_rows topic (span_of kept) kept.subscriptions;
      authors = author_rows topic kept.authors;
      retentions = retention_rows topic kept.gone kept.retention;
    }

are_rows : (kept : KeptTopic) (acks : List Row) → AreAckRows (topic_text kept.name) kept.gone kept.subscriptions acks → AreRowsOf kept (rows_of kept acks)
are_rows kept acks are = record { topics = refl; entries = refl; subs = refl; acks = are; deads = refl; counts = refl; authors = refl; retentions = refl }

-- the row of what is gone is one row or none
abbrev pub IsRetentionRow : KeptTopic → Option RetentionRow → Type 0
IsRetentionRow kept row = (topic : List ℕ) → row_in topic row ≡ retention_rows topic kept.gone kept.retention

pub whole_leads : (kept : KeptTopic) (c : Change) (row : Option RetentionRow) → c.topic ≡ true → c.went ≡ 0 → c.from ≡ 0 → IsRetentionRow kept row → SubsDiffer [] kept.subscriptions c.subs → AcksDiffer kept.gone kept.gone [] kept.subscriptions c.acks
    → DeadsDiffer (span_of kept) (span_of kept) [] kept.subscriptions c.deads → CountsDiffer (span_of kept) (span_of kept) [] kept.subscriptions c.counts → AuthorsDiffer [] kept.authors c.authors → RetentionsDiffer None row c.retentions
    → (rows : TopicRows) × AreRowsOf kept rows × Leads kept c no_rows rows
whole_leads kept c row own went from retained subs acks deads counts authors retentions =
    let topic = topic_text kept.name in
    let runs = acks topic [] refl in (
      rows_of kept runs.0,
      are_rows kept runs.0 runs.1,
      record {
        topics = rw own refl;
        from = rw from (omega arith);
        went = rw went (omega arith);
        entries = rw (went, from) (ap (λ n. entry_rows topic n kept.log) (omega arith));
        subs = subs topic;
        acks = runs.2;
        deads = deads topic;
        counts = counts topic;
        authors = authors topic;
        retentions = rw (← retained topic) (retentions topic);
      },
    )

-- the topic's own row stays, or becomes the new one
own_row : (base kept : KeptTopic) (changes : Bool) (rows : List Row) → kept.name ≡ base.name → (changes ≡ false → (base.ledger_size ≡ kept.ledger_size) × (base.ledger ≡ kept.ledger) × (base.next_ordinal ≡ kept.next_ordinal))
    → rows ≡ topic_row base ∷ [] → topic_row kept ∷ [] ≡ (if changes then topic_row kept ∷ [] else rows)
own_row base kept true rows name same is = refl
own_row base kept false rows name same is =
    let all = same refl in
    rw (is, name, all.0, all.1, all.2) refl

-- without the rows of the messages that went, and with those of the messages that came
entries_lead : (topic : List ℕ) (went from : ℕ) (base kept : Span) → base.gone + went ≡ kept.gone → IsLater base kept → from ≡ length base.log - went
    → entry_rows topic kept.gone kept.log ≡ (if went == 0 then entry_rows topic base.gone base.log else not_below kept.gone (entry_rows topic base.gone base.log)) ++ entry_rows topic (kept.gone + from) (drop from kept.log)
entries_lead topic went from base kept gone later is =
    let same : went ≡ later.went = (let more = later.gone in omega (arith, more)) in
    let stays = later.stays in
    let left : from ≡ length (drop went base.log) = (let shorter = length-drop went base.log in omega (arith, shorter)) in
    let log : kept.log ≡ drop went base.log ++ later.more = later.log ∙ ap (λ n. drop n base.log ++ later.more) (sym same) in
    let stayed : entry_rows topic kept.gone (drop went base.log) ≡ (if went == 0 then entry_rows topic base.gone base.log else not_below kept.gone (entry_rows topic base.gone base.log)) = those (went == 0) refl in
    let came : entry_rows topic (kept.gone + length (drop went base.log)) later.more ≡ entry_rows topic (kept.gone + from) (drop from kept.log) =
    ap₂ (λ (n : ℕ) (l : List Entry). entry_rows topic (kept.gone + n) l) (sym left) (sym (after_first (drop went base.log) later.more) ∙ ap₂ (λ (n : ℕ) (l : List Entry). drop n l) (sym left) (sym log)) in
    ap (entry_rows topic kept.gone) log ∙ rows_from topic kept.gone (drop went base.log) later.more ∙ ap₂ (λ (a b : List Row). a ++ b) stayed came
  where
    those : (b : Bool) → (went == 0) ≡ b → entry_rows topic kept.gone (drop went base.log) ≡ (if b then entry_rows topic base.gone base.log else not_below kept.gone (entry_rows topic base.gone base.log))
    those true none =
        let nought : went ≡ 0 = number_is went 0 none in
        let there : kept.gone ≡ base.gone = omega (arith, gone, nought) in
        ap₂ (λ (g n : ℕ). entry_rows topic g (drop n base.log)) there nought
    those false some =
        let so_many : kept.gone - base.gone ≡ went = omega (arith, gone) in
        sym (beyond_are topic base.gone kept.gone base.log
        ∙ ap (λ n. entry_rows topic (base.gone + n) (drop n base.log)) so_many
        ∙ ap (λ n. entry_rows topic n (drop went base.log)) gone)

pub between_leads : (base kept : KeptTopic) (c : Change) (old new : Option RetentionRow) → kept.name ≡ base.name → IsLater (span_of base) (span_of kept)
    → (c.topic ≡ false → (base.ledger_size ≡ kept.ledger_size) × (base.ledger ≡ kept.ledger) × (base.next_ordinal ≡ kept.next_ordinal)) → base.gone + c.went ≡ kept.gone → c.from ≡ length base.log - c.went
    → IsRetentionRow base old → IsRetentionRow kept new → SubsDiffer base.subscriptions kept.subscriptions c.subs → AcksDiffer base.gone kept.gone base.subscriptions kept.subscriptions c.acks
    → DeadsDiffer (span_of base) (span_of kept) base.subscriptions kept.subscriptions c.deads → CountsDiffer (span_of base) (span_of kept) base.subscriptions kept.subscriptions c.counts → AuthorsDiffer base.authors kept.authors c.authors
    → RetentionsDiffer old new c.retentions → (olds : TopicRows) → AreRowsOf base olds → (news : TopicRows) × AreRowsOf kept news × Leads kept c olds news
between_leads base kept c old new name later own went from was is subs acks deads counts authors retentions olds are =
    let topic = topic_text kept.name in
    let same : topic_text base.name ≡ topic = ap topic_text (sym name) in
    let runs = acks topic olds.acks (rw same at are.acks) in (
      rows_of kept runs.0,
      are_rows kept runs.0 runs.1,
      record {
        topics = own_row base kept c.topic olds.topics name own are.topics;
        from = least_of c.went c.from;
        went = omega (arith, went);
        entries = rw (are.entries, same) (entries_lead topic c.went c.from (span_of base) (span_of kept) went later from);
        subs = rw (are.subs, same) (subs topic);
        acks = runs.2;
        deads = rw (are.deads, same) (deads topic);
        counts = rw (are.counts, same) (counts topic);
        authors = rw (are.authors, same) (authors topic);
        retentions = rw (are.retentions, same, ← was topic, ← is topic) (retentions topic);
      },
    )
  where
    -- messages only come at the end
    least_of : (went from : ℕ) → c.from ≤ length kept.log
    least_of went_so from_so =
        let longer : length kept.log ≡ length (drop later.went base.log) + length later.more = ap length later.log ∙ length-append (drop later.went base.log) later.more in
        let shorter = length-drop later.went base.log in
        let more = later.gone in
        omega (arith, longer, shorter, more, went, from)

pub unchanged : {P : Type 0} (same : Bool) → (IsTrue same → P) → not same ≡ false → P
unchanged true told e = told refl
unchanged false told e = absurd (cc)
