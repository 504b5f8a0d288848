-- What is read is a snapshot that a topic may go on from.
use Rattle.std.proofs.Common.{◌≡◌, ℕ, ◌≤◌, ◌^◌, false, List, [], ◌∷◌, map, length, refl, ap, sym, subst, ◌∙◌}
use Rattle.std.specs.List.{All}
use Rattle.std.specs.FinSet as set
use Rattle.std.specs.Ordering.{nat_cmp}
use Rattle.std.proofs.lemmas.List.Elements.{All-map, All-weaker}
use Rattle.sqlite.specs.declared.types.Value.TheVariants.{Text as Words}
use Rattle.sqlite.specs.Order.{Row}
use Rattle.position_core.specs.declared.message.Entry.{Entry}
use Rattle.position_core.specs.declared.topic_name.TopicName.{TopicName}
use Rattle.position_core.specs.Position.{positions_total}
use Rattle.position_core.specs.TopicName.{same_topic, topic_text}
use Rattle.delivery_machine.specs.State.{Author, DeadLetter}
use Rattle.delivery_machine.specs.Snapshot.{KeptSubscription}
use Rattle.delivery_machine.specs.Places.{AreBelow, KeptPlaces, KeptTopic, MayRestart, kept_in, positions_at, positions_from}
use Rattle.delivery_machine.specs.WellFormed.{AreAuthors, AreMessagesOf, HaveOrdinals, IsSoundSubscription, IsWellFormedLog, NamesRise}
use Rattle.machine_laws.proofs.Ordinals.{letters_mapped}
use Rattle.row_tables.specs.declared.side_rows.SideRows.{SideRows}
use Rattle.row_forms.specs.Forms.{AreAckRows, AreRowsOf, Span, author_rows, count_rows, dead_rows, sub_rows}
use Rattle.row_reading.specs.declared.retention_rows.Front.{Front}
use Rattle.row_reading.specs.declared.topic_row.Head.{Head}
use Rattle.row_reading.specs.Reading.{AreSubsOf, IsFrontIn, IsHeadIn, IsLetterOf, IsNamed, IsSubOf, put, rows_with}
use Rattle.row_reading.proofs.PlacesRead.{among}

-- ---- what is acknowledged

acknowledged_are : (log : List Entry) (places : set.FinSet nat_cmp) → AreMessagesOf log (positions_at log places)
acknowledged_are log places q there =
    among 0 (set.contains places) log q (sym (set.contains-from_list positions_total (positions_from 0 (set.contains places) log) q) ∙ there)

-- ---- the snapshot

pub same_names : (log : List Entry) (subs : List KeptPlaces) → map (λ (sub : KeptSubscription). sub.name) (map (kept_in log) subs) ≡ map (λ (sub : KeptPlaces). sub.name) subs
same_names log [] = refl
same_names log (sub ∷ subs) = ap (λ names. sub.name ∷ names) (same_names log subs)

pub may_restart : (own : TopicName) (kept : KeptTopic) → IsWellFormedLog kept.ledger_size kept.ledger kept.log → kept.gone ≤ 2 ^ 62 → AreAuthors kept.gone kept.authors → length kept.log ≤ 1048576 → AreSubsOf own kept.log kept.next_ordinal kept.subscriptions → MayRestart kept
may_restart own kept log gone authors short subs = record {
  sound = record {
    log = log;
    gone = gone;
    authors = authors;
    names = subst NamesRise (sym (same_names kept.log kept.subscriptions)) subs.names;
    subscriptions = All-map (IsSoundSubscription kept.log) (kept_in kept.log) kept.subscriptions
        (All-weaker (IsSubOf own kept.log kept.next_ordinal) (λ sub. IsSoundSubscription kept.log (kept_in kept.log sub))
        (λ sub is. record { acknowledged = acknowledged_are kept.log sub.acknowledged; counted = is.counted; dead = is.dead }) kept.subscriptions subs.each);
    ordinals = subst (λ ds. HaveOrdinals kept.next_ordinal ds)
        (sym (letters_mapped (λ (sub : KeptSubscription). sub.dead) (λ (sub : KeptPlaces). sub.dead) (kept_in kept.log) (λ _. refl) kept.subscriptions)) subs.ordinals;
  };
  short = short;
  within = All-weaker (IsSubOf own kept.log kept.next_ordinal) (λ (sub : KeptPlaces). AreBelow (length kept.log) sub.acknowledged) (λ sub is. is.within) kept.subscriptions subs.each;
}

abbrev pub of_parts : TopicName → Head → Front → List Author → List Entry → List KeptPlaces → KeptTopic
of_parts name head front authors log subs = record {
  name = name;
  ledger_size = head.ledger_size;
  ledger = head.ledger;
  next_ordinal = head.next_ordinal;
  gone = front.gone;
  authors = authors;
  retention = front.retention;
  log = log;
  subscriptions = subs;
}

-- what the rows beside the messages show of authors and subscriptions
pub record AreShown (sides : SideRows) (span : Span) (authors : List Author) (subs : List KeptPlaces) : Type 0 where
  pub authors_are : (topic : List ℕ) → put topic sides.authors.items ≡ author_rows topic authors
  pub own : (topic : List ℕ) → put topic sides.subs.items ≡ sub_rows topic subs
  pub acks : (topic : List ℕ) → AreAckRows topic span.gone subs (put topic sides.acks.items)
  pub deads : (topic : List ℕ) → put topic sides.deads.items ≡ dead_rows topic span subs
  pub counts : (topic : List ℕ) → put topic sides.counts.items ≡ count_rows topic span subs

pub rows_shown : (name : TopicName) (head : Head) (front : Front) (authors : List Author) (log : List Entry) (subs : List KeptPlaces) (sides : SideRows) → IsHeadIn sides.topics.items head → IsFrontIn sides.retentions.items front
    → AreShown sides (record { gone = front.gone; log = log }) authors subs → AreRowsOf (of_parts name head front authors log subs) (rows_with (topic_text name) (record { gone = front.gone; log = log }) sides)
rows_shown name head front authors log subs sides (row, one, is) first shown = record {
  topics = ap (put (topic_text name)) one ∙ ap (λ (r : Row). (Words (topic_text name) ∷ r) ∷ []) is.shown;
  entries = refl;
  subs = shown.own (topic_text name);
  acks = shown.acks (topic_text name);
  deads = shown.deads (topic_text name);
  counts = shown.counts (topic_text name);
  authors = shown.authors_are (topic_text name);
  retentions = first.shown (topic_text name);
}

-- every dead letter goes to another topic
pub targets_elsewhere : (own : TopicName) (log : List Entry) (next : ℕ) (subs : List KeptPlaces) → AreSubsOf own log next subs → All (λ (sub : KeptPlaces). All (λ (d : DeadLetter). IsNamed d.target × (same_topic d.target own ≡ false)) sub.dead) subs
targets_elsewhere own log next subs sound =
    All-weaker (IsSubOf own log next) (λ (sub : KeptPlaces). All (λ (d : DeadLetter). IsNamed d.target × (same_topic d.target own ≡ false)) sub.dead)
    (λ sub is. All-weaker (IsLetterOf own next) (λ (d : DeadLetter). IsNamed d.target × (same_topic d.target own ≡ false)) (λ d letter. (letter.named, letter.elsewhere)) sub.dead is.letters) subs sound.each
