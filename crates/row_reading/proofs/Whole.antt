-- The rows of a snapshot that is read back, part by part.
use Rattle.std.proofs.Common.{◌≡◌, ℕ, ◌<◌, Bool, Option, false, List, [], ◌∷◌, ◌++◌, map, pos, length, refl, true, ap, sym, subst, ◌∙◌}
use Rattle.std.specs.Prelude.{IsTrue, IsUtf8, ◌≤ℤ◌, ◌==◌, ◌&&◌, is_none, if◌then◌else◌}
use Rattle.std.specs.FinSet as set
use Rattle.std.specs.List.{All, AllByRecursion, flat_map}
use Rattle.std.specs.Ordering.{nat_cmp}
use Rattle.std.proofs.lemmas.List.Elements.{All-from_recursion, recursion_from_All}
use Rattle.sqlite.specs.declared.types.Value.TheVariants.{Int}
use Rattle.sqlite.specs.Order.{Row}
use Rattle.position_core.specs.declared.topic_name.TopicName.{TopicName}
use Rattle.position_core.specs.declared.message.Entry.{Entry}
use Rattle.position_core.specs.Name.{is_name}
use Rattle.position_core.specs.TopicName.{same_topic, topic_text}
use Rattle.delivery_machine.specs.State.{Author, DeadLetter}
use Rattle.delivery_machine.specs.declared.retention.Retention.{Retention}
use Rattle.delivery_machine.specs.Snapshot.{KeptSubscription}
use Rattle.delivery_machine.specs.Places.{AreBelow, KeptPlaces, KeptTopic, kept_in}
use Rattle.delivery_machine.specs.WellFormed.{AreDeadLettersOf, HaveOrdinals, IsSoundSubscription, NamesRise, has_message}
use Rattle.machine_laws.proofs.Ordinals.{letters_mapped}
use Rattle.row_tables.specs.declared.side_rows.SideRows.{SideRows}
use Rattle.row_forms.specs.Forms.{AreAckRows, AreRowsOf, Span, author_rows, count_rows, dead_rows, entry_rows, retention_row, retention_rows, span_of, sub_rows, topic_row}
use Rattle.row_reading.specs.declared.retention_rows.Front.{Front}
use Rattle.row_reading.specs.declared.topic_row.Head.{Head}
use Rattle.row_reading.specs.Reading.{IsFrontIn, IsHead, IsNamed, IsReadBack, IsReadable, IsReadableLog, IsReadableSub, IsReadableAuthor, IsText, ShowAuthors, ShowSubs, put, rows_with}
use Rattle.row_reading.proofs.Authors.{one_front}
use Rattle.row_reading.proofs.Restarts.{same_names}
use Rattle.row_reading.proofs.Told.{same_log}

-- ---- the topic's own row

head_of : KeptTopic → Head
head_of kept = record { ledger_size = kept.ledger_size; ledger = kept.ledger; next_ordinal = kept.next_ordinal }

-- the row, and what it says
pub record HasHead (rows : List Row) (kept : KeptTopic) (head : Head) : Type 0 where
  pub row : Row
  pub one : rows ≡ row ∷ []
  pub says : IsHead row head
  pub size : head.ledger_size ≡ kept.ledger_size
  pub ledger : head.ledger ≡ kept.ledger
  pub next : head.next_ordinal ≡ kept.next_ordinal

only_row : (topic : List ℕ) (kept : KeptTopic) (rows : List Row) → put topic rows ≡ topic_row kept ∷ [] → (row : Row) × (rows ≡ row ∷ []) × (row ≡ Int (pos kept.ledger_size) ∷ Int (pos kept.ledger) ∷ Int (pos kept.next_ordinal) ∷ [])
only_row topic kept [] e = absurd (cc)
only_row topic kept (r ∷ []) e = (r, refl, cc)
only_row topic kept (r ∷ s ∷ rows) e = absurd (cc)

pub has_head : (kept : KeptTopic) (topic : List ℕ) (rows : List Row) → IsReadBack kept → put topic rows ≡ topic_row kept ∷ [] → (head : Head) × HasHead rows kept head
unfolding head_of
has_head kept topic rows back e =
    let r = only_row topic kept rows e in (
      head_of kept,
      record {
        row = r.0;
        one = r.1;
        says = record { shown = r.2; last_ledger = back.may.sound.log.last_ledger; last_ordinal = back.may.sound.ordinals.last_ordinal };
        size = refl;
        ledger = refl;
        next = refl;
      },
    )

-- one row says one thing
pub one_head : (rows : List Row) (row : Row) (a b : Head) (kept : KeptTopic) → HasHead rows kept a → rows ≡ row ∷ [] → IsHead row b → (b.ledger_size ≡ kept.ledger_size) × (b.ledger ≡ kept.ledger) × (b.next_ordinal ≡ kept.next_ordinal)
one_head rows row a b kept h one says = said row h.row (cc_rows (sym one ∙ h.one)) says.shown h.says.shown
  where
    cc_rows : row ∷ [] ≡ h.row ∷ [] → row ≡ h.row
    cc_rows e = cc

    said : (r s : Row) → r ≡ s → r ≡ Int (pos b.ledger_size) ∷ Int (pos b.ledger) ∷ Int (pos b.next_ordinal) ∷ [] → s ≡ Int (pos a.ledger_size) ∷ Int (pos a.ledger) ∷ Int (pos a.next_ordinal) ∷ []
        → (b.ledger_size ≡ kept.ledger_size) × (b.ledger ≡ kept.ledger) × (b.next_ordinal ≡ kept.next_ordinal)
    said r s same x y =
        let size : b.ledger_size ≡ a.ledger_size = cc in
        let ledger : b.ledger ≡ a.ledger = cc in
        let next : b.next_ordinal ≡ a.next_ordinal = cc in
        (size ∙ h.size, ledger ∙ h.ledger, next ∙ h.next)

-- ---- subscriptions

letters_readable : (own : TopicName) (log : List Entry) (next : ℕ) (ds : List DeadLetter) → AllByRecursion (λ (d : DeadLetter). has_message log d.position ≡ true) ds → AllByRecursion (λ (d : DeadLetter). IsNamed d.target × (same_topic d.target own ≡ false)) ds
    → AllByRecursion (λ (d : DeadLetter). IsUtf8 (topic_text d.target)) ds → AllByRecursion (λ (d : DeadLetter). d.ordinal < next) ds → AllByRecursion (IsReadable own log next) ds
letters_readable own log next [] a b c e = tt
letters_readable own log next (d ∷ ds) a b c e = (
  record { letter = record { given = e.0; named = b.0.0; elsewhere = b.0.1 }; message = a.0; text = c.0 },
  letters_readable own log next ds a.1 b.1 c.1 e.1,
)

none_there : (ds : List DeadLetter) → AllByRecursion (λ (d : DeadLetter). set.contains {R = nat_cmp} set.empty d.ordinal ≡ false) ds
none_there [] = tt
none_there (d ∷ ds) = (set.contains-empty nat_cmp d.ordinal, none_there ds)

front_of : (P : DeadLetter → Type 0) (xs ys : List DeadLetter) → AllByRecursion P (xs ++ ys) → AllByRecursion P xs × AllByRecursion P ys
front_of P [] ys all = (tt, all)
front_of P (x ∷ xs) ys all = let rest = front_of P xs ys all.1 in ((all.0, rest.0), rest.1)

subs_readable : (own : TopicName) (log : List Entry) (next : ℕ) (subs : List KeptPlaces) → AllByRecursion (λ (sub : KeptPlaces). IsTrue (is_name sub.name) × IsUtf8 sub.name) subs → AllByRecursion (λ (sub : KeptPlaces). AreBelow (length log) sub.acknowledged) subs
    → AllByRecursion (IsSoundSubscription log) (map (kept_in log) subs) → AllByRecursion (λ (sub : KeptPlaces). All (λ (d : DeadLetter). IsNamed d.target × (same_topic d.target own ≡ false)) sub.dead) subs
    → AllByRecursion (λ (sub : KeptPlaces). All (λ (d : DeadLetter). IsUtf8 (topic_text d.target)) sub.dead) subs → AllByRecursion (λ (d : DeadLetter). d.ordinal < next) (flat_map (λ (sub : KeptPlaces). sub.dead) subs)
    → AllByRecursion (IsReadableSub own log next set.empty) subs
subs_readable own log next [] a b c d e f = tt
subs_readable own log next (sub ∷ subs) a b c d e f =
    let parts = front_of (λ (x : DeadLetter). x.ordinal < next) sub.dead (flat_map (λ (s : KeptPlaces). s.dead) subs) f in
    let dead : AreDeadLettersOf log sub.dead = c.0.dead in (
      record {
        name = a.0.0;
        text = a.0.1;
        within = b.0;
        counted = c.0.counted;
        letters = record {
          each = All-from_recursion (IsReadable own log next) sub.dead (letters_readable own log next sub.dead (recursion_from_All _ sub.dead dead.messages) (recursion_from_All _ sub.dead d.0) (recursion_from_All _ sub.dead e.0) parts.0);
          dead = dead;
          fresh = All-from_recursion _ sub.dead (none_there sub.dead);
        };
      },
      subs_readable own log next subs a.1 b.1 c.1 d.1 e.1 parts.1,
    )

pub readable_log : (kept : KeptTopic) → IsReadBack kept → IsReadableLog kept.ledger_size kept.ledger kept.log
readable_log kept back = record { size = back.size; each = back.messages; sound = back.may.sound.log; short = back.may.short }

-- the messages that were read are the snapshot's
pub its_log : (kept : KeptTopic) (own : TopicName) (span : Span) (sides : SideRows) → kept.name ≡ own → span.gone ≡ kept.gone → AreRowsOf kept (rows_with (topic_text own) span sides) → span.log ≡ kept.log
its_log kept own span sides name gone rows =
    same_log (topic_text own) kept.gone span.log kept.log (ap (λ n. entry_rows (topic_text own) n span.log) (sym gone) ∙ rows.entries ∙ ap (λ t. entry_rows (topic_text t) kept.gone kept.log) name)

pub show_subs : (kept : KeptTopic) (own : TopicName) (span : Span) (sides : SideRows) → IsReadBack kept → kept.name ≡ own → AreRowsOf kept (rows_with (topic_text own) span sides)
    → ShowSubs own (span_of kept) kept.next_ordinal (topic_text own) kept.subscriptions sides.subs.items sides.acks.items sides.deads.items sides.counts.items
show_subs kept own span sides back name rows =
    let subs : List KeptPlaces = kept.subscriptions in
    let targets : All (λ (sub : KeptPlaces). All (λ (d : DeadLetter). IsNamed d.target × (same_topic d.target own ≡ false)) sub.dead) subs =
    subst (λ t. All (λ (sub : KeptPlaces). All (λ (d : DeadLetter). IsNamed d.target × (same_topic d.target t ≡ false)) sub.dead) subs) name back.told.targets in
    let ordinals : HaveOrdinals kept.next_ordinal (flat_map (λ (sub : KeptPlaces). sub.dead) subs) = subst (HaveOrdinals kept.next_ordinal)
    (letters_mapped (λ (sub : KeptSubscription). sub.dead) (λ (sub : KeptPlaces). sub.dead) (kept_in kept.log) (λ _. refl) subs) back.may.sound.ordinals in
    record {
      names = subst NamesRise (same_names kept.log subs) back.may.sound.names;
      each = All-from_recursion (IsReadableSub own kept.log kept.next_ordinal set.empty) subs
          (subs_readable own kept.log kept.next_ordinal subs (recursion_from_All _ subs back.names) (recursion_from_All _ subs back.may.within) (recursion_from_All (IsSoundSubscription kept.log) (map (kept_in kept.log) subs) back.may.sound.subscriptions)
          (recursion_from_All _ subs targets) (recursion_from_All _ subs back.texts) (recursion_from_All _ (flat_map (λ (sub : KeptPlaces). sub.dead) subs) ordinals.below));
      ordinals = ordinals;
      shown = rows.subs ∙ ap (λ t. sub_rows (topic_text t) subs) name;
      runs = subst (λ t. AreAckRows (topic_text t) kept.gone subs (put (topic_text own) sides.acks.items)) name rows.acks;
      letters = rows.deads ∙ ap (λ t. dead_rows (topic_text t) (span_of kept) subs) name;
      counted = rows.counts ∙ ap (λ t. count_rows (topic_text t) (span_of kept) subs) name;
    }

-- ---- what is gone, and producers

pub same_front : (kept : KeptTopic) (own : TopicName) (front : Front) (rows : List Row) → kept.name ≡ own → IsFrontIn rows front → put (topic_text own) rows ≡ retention_rows (topic_text kept.name) kept.gone kept.retention → (front.gone ≡ kept.gone) × (front.retention ≡ kept.retention)
same_front kept own front rows name shown are =
    one_front (topic_text own) front.gone kept.gone front.retention kept.retention (sym (shown.shown (topic_text own)) ∙ are ∙ ap (λ t. retention_rows (topic_text t) kept.gone kept.retention) name)

retentions_move : (t u : List ℕ) (gone : ℕ) (rule : Option Retention) (rows : List Row) → put t rows ≡ retention_rows t gone rule → put u rows ≡ retention_rows u gone rule
retentions_move t u gone rule rows are = by (gone == 0 && is_none rule) rows are
  where
    by : (b : Bool) (rs : List Row) → put t rs ≡ (if b then [] else retention_row t gone rule ∷ []) → put u rs ≡ (if b then [] else retention_row u gone rule ∷ [])
    by true [] e = refl
    by true (r ∷ rs) e = absurd (cc)
    by false [] e = absurd (cc)
    by false (r ∷ []) e = cc
    by false (r ∷ s ∷ rs) e = absurd (cc)

pub has_front : (kept : KeptTopic) (topic : List ℕ) (rows : List Row) → IsReadBack kept → put topic rows ≡ retention_rows topic kept.gone kept.retention → IsFrontIn rows (record { gone = kept.gone; retention = kept.retention })
has_front kept topic rows back are = record {
  shown = λ t. retentions_move topic t kept.gone kept.retention rows are;
  at_most = back.may.sound.gone;
  rule = back.rule;
}

authors_readable : (authors : List Author) → AllByRecursion (λ (a : Author). IsText 1 1280 a.name) authors → AllByRecursion (λ (a : Author). pos 0 ≤ℤ a.sequence) authors → AllByRecursion IsReadableAuthor authors
authors_readable [] names sequences = tt
authors_readable (a ∷ authors) names sequences = (record { name = names.0; sequence = sequences.0 }, authors_readable authors names.1 sequences.1)

pub show_authors : (kept : KeptTopic) (own : TopicName) (rows : List Row) → IsReadBack kept → kept.name ≡ own → put (topic_text own) rows ≡ author_rows (topic_text kept.name) kept.authors → ShowAuthors kept.gone (topic_text own) kept.authors rows
show_authors kept own rows back name are = record {
  each = All-from_recursion IsReadableAuthor kept.authors (authors_readable kept.authors (recursion_from_All _ kept.authors back.authors) (recursion_from_All _ kept.authors back.told.remembered));
  sound = back.may.sound.authors;
  shown = are ∙ ap (λ t. author_rows (topic_text t) kept.authors) name;
}
