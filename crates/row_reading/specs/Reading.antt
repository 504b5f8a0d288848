-- Rows as they are read: each without the topic's text, which is put before it.
use Rattle.std.specs.Prelude.{◌≡◌, ◌==◌, ℕ, ◌+◌, ◌^◌, ◌<◌, ◌≤◌, ◌≤ℤ◌, false, cond, ◌-◌, Option, is_none, ◌&&◌, option_map, slice_get, IfSome, IsTrue, IsUtf8, List, [], ◌∷◌, ◌++◌, map, length, pos}
use Rattle.std.specs.List.{All, count_by, flat_map, list_any}
use Rattle.std.specs.FinSet as set
use Rattle.std.specs.FinMap as map_of
use Rattle.std.specs.Ordering.{nat_cmp}
use Rattle.std.specs.declared.cmp.Ordering.TheVariants.{Less}
use Rattle.position_core.specs.declared.position.Position.{Position}
use Rattle.position_core.specs.Position.{position_cmp, same_position}
use Rattle.sqlite.specs.declared.types.Value.TheVariants.{Int, Text as Words}
use Rattle.sqlite.specs.Order.{Row, column}
use Rattle.position_core.specs.declared.topic_name.TopicName.{TopicName}
use Rattle.position_core.specs.Name.{is_name}
use Rattle.position_core.specs.TopicName.{same_topic, topic_text}
use Rattle.position_core.specs.declared.body.Content.{Content}
use Rattle.position_core.specs.declared.message.Entry.{Entry}
use Rattle.delivery_machine.specs.State.{Author, DeadLetter}
use Rattle.delivery_machine.specs.declared.retention.Retention.{Retention}
use Rattle.delivery_machine.specs.declared.retention.Retention.TheVariants as rule
use Rattle.delivery_machine.specs.Ticking.{most_count}
use Rattle.delivery_machine.specs.Places.{AreBelow, KeptPlaces, KeptTopic, MayRestart, positions_at}
use Rattle.delivery_machine.specs.WellFormed.{AreAuthors, AreCountsOf, AreDeadLettersOf, HaveOrdinals, IsWellFormedLog, NamesRise, has_message}
use Rattle.ack_ranges.specs.Ranges.{AreRangesOf}
use Rattle.json_values.specs.Written.{AreProperties}
use Rattle.row_tables.specs.declared.side_rows.SideRows.{SideRows}
use Rattle.row_forms.specs.Forms.{TopicRows, AreAckRows, Span, ack_row, author_row, author_rows, count_row, count_rows, dead_row, dead_rows, entry_row, entry_rows, index_in, retention_rows, rule_cells, sub_rows}
use Rattle.row_reading.specs.declared.retention_rows.Front.{Front}
use Rattle.row_reading.specs.declared.topic_row.Head.{Head}

-- the rows of the topic
abbrev pub put : List ℕ → List Row → List Row
put topic rows = map (λ (r : Row). Words topic ∷ r) rows

-- what the topic's own row says
pub record IsHead (row : Row) (head : Head) : Type 0 where
  pub shown : row ≡ Int (pos head.ledger_size) ∷ Int (pos head.ledger) ∷ Int (pos head.next_ordinal) ∷ []
  pub last_ledger : head.ledger ≤ 2 ^ 62 + 1
  pub last_ordinal : head.next_ordinal ≤ 2 ^ 62

-- the topic has one row of its own, and this is what it says
abbrev pub IsHeadIn : List Row → Head → Type 0
IsHeadIn rows head = (row : Row) × (rows ≡ row ∷ []) × IsHead row head

-- a rule that a topic may have
abbrev pub IsRule : Retention → Type 0
IsRule rule.All = Unit {0}
IsRule (rule.Messages count) = count ≤ 1048576
IsRule (rule.Age millis) = millis ≤ 253402300799999

-- none, or such a rule
abbrev pub MayBeRule : Option Retention → Type 0
MayBeRule retention = IfSome retention IsRule

-- one row says so many are gone, or a rule, or both
pub record IsRowOfFront (row : Row) (front : Front) : Type 0 where
  pub shown : row ≡ Int (pos front.gone) ∷ rule_cells front.retention
  pub says : (front.gone == 0 && is_none front.retention) ≡ false
  pub at_most : front.gone ≤ 2 ^ 62
  pub rule : MayBeRule front.retention

-- what is read of the messages that are gone, and of the topic's own rule: there is one row where it says something, and else none
pub record IsFrontIn (rows : List Row) (front : Front) : Type 0 where
  pub shown : (topic : List ℕ) → put topic rows ≡ retention_rows topic front.gone front.retention
  pub at_most : front.gone ≤ 2 ^ 62
  pub rule : MayBeRule front.retention

-- a size of ledgers that a topic may have
abbrev pub IsLedgerSize : ℕ → Type 0
IsLedgerSize size = (1 ≤ size) × (size ≤ 50000)

-- a text of UTF-8 of at least and at most so many bytes
abbrev pub IsText : ℕ → ℕ → List ℕ → Type 0
IsText least most text = IsUtf8 text × (least ≤ length text) × (length text ≤ most)

-- the row of a message at a place
abbrev pub IsEntryAt : ℕ → Row → Entry → Type 0
IsEntryAt place row e = (topic : List ℕ) → Words topic ∷ row ≡ entry_row topic place e

-- each name and each value is of UTF-8
abbrev pub AreTexts : List (List ℕ × List ℕ) → Type 0
AreTexts properties = All (λ p. IsUtf8 p.0 × IsUtf8 p.1) properties

-- content that a message may have: within the limits, its texts of UTF-8
pub record IsContent (body : Content) : Type 0 where
  pub key : IfSome body.key (IsText 0 1024)
  pub properties : AreProperties body.properties
  pub texts : AreTexts body.properties
  pub payload : length body.payload ≤ 1048576

-- a message that is read: its values are within their limits, its texts of UTF-8, and its content is such as a message may have
pub record IsReadableMessage (e : Entry) : Type 0 where
  pub producer : IsText 1 1280 e.producer
  pub sequence : pos 0 ≤ℤ e.sequence
  pub time : e.time ≤ 253402300799999
  pub content : IsContent e.body

-- a log that is read: its messages are, the topic may have it, and ledgers have such a size
pub record IsReadableLog (ledger_size ledger : ℕ) (log : List Entry) : Type 0 where
  pub size : IsLedgerSize ledger_size
  pub each : All IsReadableMessage log
  pub sound : IsWellFormedLog ledger_size ledger log
  pub short : length log ≤ 1048576

-- the first messages are those, and the rows are those of the others, where so many are gone before them
abbrev pub GoOn : ℕ → List Entry → List Row → List Entry → Type 0
GoOn gone came rows log = (topic : List ℕ) → entry_rows topic gone came ++ put topic rows ≡ entry_rows topic gone log

-- the position of the last message, if there is one
abbrev pub last_position : List Entry → Option Position
last_position log = option_map (λ (e : Entry). e.position) (slice_get log (length log - 1))

-- the row of a run, given by the indexes of its first message and its last, where so many are gone before the log
abbrev pub IsRunAt : List ℕ → ℕ → Row → ℕ → ℕ → Type 0
IsRunAt sub gone row first last = row ≡ Words sub ∷ Int (pos (gone + first)) ∷ Int (pos (gone + last)) ∷ []

-- the first rows are those of the subscription's runs, and others follow
abbrev pub BeginsWithRuns : List ℕ → ℕ → set.FinSet nat_cmp → List Row → List Row → Type 0
BeginsWithRuns sub gone places rows rest =
    (runs : List (ℕ × ℕ)) × AreRangesOf places runs × ((topic : List ℕ) → put topic rows ≡ map (ack_row topic sub gone) runs ++ put topic rest)

-- the subscription's rows are past: the first one is another's, if there is one
abbrev pub ArePast : List ℕ → List Row → Type 0
ArePast sub [] = Unit {0}
ArePast sub (row ∷ rows) = column row 0 ≡ Words sub → ⊥

-- the row of a dead letter of the subscription, where this is the log
abbrev pub IsLetterAt : List ℕ → Span → Row → DeadLetter → Type 0
IsLetterAt sub span row d = (topic : List ℕ) → Words topic ∷ row ≡ dead_row topic sub span d

-- the first rows are those of the subscription's dead letters, and others follow
abbrev pub BeginsWithLetters : List ℕ → Span → List DeadLetter → List Row → List Row → Type 0
BeginsWithLetters sub span letters rows rest = (topic : List ℕ) → put topic rows ≡ map (dead_row topic sub span) letters ++ put topic rest

-- a message at the position may come after the last one of a log
pub record IsNext (ledger_size ledger : ℕ) (last : Option Position) (position : Position) : Type 0 where
  pub after : IfSome last (λ l. position_cmp l position ≡ Less)
  pub within : position.ledger ≤ ledger
  pub numbered : position.ledger ≤ 2 ^ 62
  pub entry : position.entry < ledger_size

-- ---- dead letters

-- the tenant, the namespace and the topic are names
pub record IsNamed (name : TopicName) : Type 0 where
  pub tenant : IsTrue (is_name name.tenant)
  pub namespace : IsTrue (is_name name.namespace)
  pub topic : IsTrue (is_name name.topic)

-- a dead letter that a topic may have: its ordinal was given, and it goes to another topic
pub record IsLetterOf (own : TopicName) (next : ℕ) (d : DeadLetter) : Type 0 where
  pub given : d.ordinal < next
  pub named : IsNamed d.target
  pub elsewhere : same_topic d.target own ≡ false

-- such a dead letter whose message is in the log, with a target of UTF-8
pub record IsReadable (own : TopicName) (log : List Entry) (next : ℕ) (d : DeadLetter) : Type 0 where
  pub letter : IsLetterOf own next d
  pub message : IsTrue (has_message log d.position)
  pub text : IsUtf8 (topic_text d.target)

-- how often the number is in the set, at most once
abbrev pub times_in : set.FinSet nat_cmp → ℕ → ℕ
times_in numbers n = cond (set.contains numbers n) 1 0

-- the letters' ordinals came into the set: none of them was there before, and none stands twice
abbrev pub OrdinalsCame : List DeadLetter → set.FinSet nat_cmp → set.FinSet nat_cmp → Type 0
OrdinalsCame letters old new = (n : ℕ) → times_in new n ≡ times_in old n + count_by (λ (d : DeadLetter). d.ordinal == n) letters

-- dead letters of one subscription that are read: each is, and their ordinals are none of the set
pub record AreReadable (own : TopicName) (log : List Entry) (next : ℕ) (ordinals : set.FinSet nat_cmp) (ds : List DeadLetter) : Type 0 where
  pub each : All (IsReadable own log next) ds
  pub dead : AreDeadLettersOf log ds
  pub fresh : All (λ d. set.contains ordinals d.ordinal ≡ false) ds

-- ---- counts

-- the set has the index of a message of the log where the message died
abbrev pub AreDeadAt : List Entry → List DeadLetter → set.FinSet nat_cmp → Type 0
AreDeadAt log dead places = (p : Position) → IsTrue (has_message log p) → set.contains places (index_in log p) ≡ list_any (λ d. same_position d.position p) dead

-- a message of the log that is neither acknowledged nor dead, by its index, and was redelivered: so often as may be counted
pub record MayCount (log : List Entry) (acknowledged dead : set.FinSet nat_cmp) (counted : Position × ℕ) : Type 0 where
  pub message : IsTrue (has_message log counted.0)
  pub waits : set.contains acknowledged (index_in log counted.0) ≡ false
  pub lives : set.contains dead (index_in log counted.0) ≡ false
  pub redelivered : 0 < counted.1
  pub most : counted.1 ≤ most_count

-- the row of a message of the subscription that was redelivered, where this is the log
abbrev pub IsCountAt : List ℕ → Span → Row → Position × ℕ → Type 0
IsCountAt sub span row counted = (topic : List ℕ) → Words topic ∷ row ≡ count_row topic sub span counted

-- the first rows are those of the subscription's counts, and others follow
abbrev pub BeginsWithCounts : List ℕ → Span → map_of.FinMap position_cmp ℕ → List Row → List Row → Type 0
BeginsWithCounts sub span counts rows rest = (topic : List ℕ) → put topic rows ≡ map (count_row topic sub span) (map_of.entries counts) ++ put topic rest

-- ---- subscriptions

-- the first rows are those of the subscriptions' runs, and others follow
abbrev pub BeginsWithAcks : ℕ → List KeptPlaces → List Row → List Row → Type 0
BeginsWithAcks gone subs rows rest = (topic : List ℕ) → (first : List Row) × AreAckRows topic gone subs first × (put topic rows ≡ first ++ put topic rest)

-- the first rows are those of the subscriptions' dead letters, and others follow
abbrev pub BeginsWithDeads : Span → List KeptPlaces → List Row → List Row → Type 0
BeginsWithDeads span subs rows rest = (topic : List ℕ) → put topic rows ≡ dead_rows topic span subs ++ put topic rest

-- the first rows are those of the subscriptions' counts, and others follow
abbrev pub BeginWithCounts : Span → List KeptPlaces → List Row → List Row → Type 0
BeginWithCounts span subs rows rest = (topic : List ℕ) → put topic rows ≡ count_rows topic span subs ++ put topic rest

-- a subscription that the topic may go on with: it acknowledged messages of the log, and its dead letters and counts are sound
pub record IsSubOf (own : TopicName) (log : List Entry) (next : ℕ) (sub : KeptPlaces) : Type 0 where
  pub within : AreBelow (length log) sub.acknowledged
  pub counted : AreCountsOf log (positions_at log sub.acknowledged) sub.dead sub.counts
  pub dead : AreDeadLettersOf log sub.dead
  pub letters : All (IsLetterOf own next) sub.dead

-- names rise, each subscription is such, and no ordinal stands twice
pub record AreSubsOf (own : TopicName) (log : List Entry) (next : ℕ) (subs : List KeptPlaces) : Type 0 where
  pub names : NamesRise (map (λ sub. sub.name) subs)
  pub each : All (IsSubOf own log next) subs
  pub ordinals : HaveOrdinals next (flat_map (λ sub. sub.dead) subs)

-- a subscription that is read, where these ordinals came before: it has a name of UTF-8, and what it keeps is of the log
pub record IsReadableSub (own : TopicName) (log : List Entry) (next : ℕ) (ordinals : set.FinSet nat_cmp) (sub : KeptPlaces) : Type 0 where
  pub name : IsTrue (is_name sub.name)
  pub text : IsUtf8 sub.name
  pub within : AreBelow (length log) sub.acknowledged
  pub counted : AreCountsOf log (positions_at log sub.acknowledged) sub.dead sub.counts
  pub letters : AreReadable own log next ordinals sub.dead

-- rows of subscriptions that are read: their own, and those of their runs, of their dead letters and of their counts
pub record ShowSubs (own : TopicName) (span : Span) (next : ℕ) (topic : List ℕ) (subs : List KeptPlaces) (rows acks deads counts : List Row) : Type 0 where
  pub names : NamesRise (map (λ sub. sub.name) subs)
  pub each : All (IsReadableSub own span.log next set.empty) subs
  pub ordinals : HaveOrdinals next (flat_map (λ sub. sub.dead) subs)
  pub shown : put topic rows ≡ sub_rows topic subs
  pub runs : AreAckRows topic span.gone subs (put topic acks)
  pub letters : put topic deads ≡ dead_rows topic span subs
  pub counted : put topic counts ≡ count_rows topic span subs

-- ---- producers of messages that are gone

-- the row of such a producer
abbrev pub IsAuthorAt : Row → Author → Type 0
IsAuthorAt row a = (topic : List ℕ) → Words topic ∷ row ≡ author_row topic a

-- one that is read: its name and its sequence number are within their limits
pub record IsReadableAuthor (a : Author) : Type 0 where
  pub name : IsText 1 1280 a.name
  pub sequence : pos 0 ≤ℤ a.sequence

-- the sequence number of each is 0 or more
abbrev pub RememberFromZero : List Author → Type 0
RememberFromZero authors = All (λ (a : Author). pos 0 ≤ℤ a.sequence) authors

-- rows of producers that are read, where so many messages are gone
pub record ShowAuthors (gone : ℕ) (topic : List ℕ) (authors : List Author) (rows : List Row) : Type 0 where
  pub each : All IsReadableAuthor authors
  pub sound : AreAuthors gone authors
  pub shown : put topic rows ≡ author_rows topic authors

-- ---- the whole

-- each message's sequence number is 0 or more
abbrev pub CountFromZero : List Entry → Type 0
CountFromZero log = All (λ e. pos 0 ≤ℤ e.sequence) log

-- what was read of a topic so far: what its own row says, what is gone, its rule, and its first messages
pub record ReadSoFar : Type 0 where
  pub head : Head
  pub front : Front
  pub log : List Entry

-- its messages
abbrev pub span_read : ReadSoFar → Span
span_read so_far = record { gone = so_far.front.gone; log = so_far.log }

-- a topic may have what was read so far
pub record IsSoFar (head : Head) (front : Front) (log : List Entry) : Type 0 where
  pub ordinal : head.next_ordinal ≤ 2 ^ 62
  pub gone : front.gone ≤ 2 ^ 62
  pub sound : IsWellFormedLog head.ledger_size head.ledger log
  pub sequences : CountFromZero log
  pub short : length log ≤ 1048576

-- the rows of a topic with these messages, and with these rows beside them
abbrev pub rows_with : List ℕ → Span → SideRows → TopicRows
rows_with topic span sides = record {
  topics = put topic sides.topics.items;
  entries = entry_rows topic span.gone span.log;
  subs = put topic sides.subs.items;
  acks = put topic sides.acks.items;
  deads = put topic sides.deads.items;
  counts = put topic sides.counts.items;
  authors = put topic sides.authors.items;
  retentions = put topic sides.retentions.items;
}

-- sequence numbers are 0 or more, subscriptions are at most 64, and dead letters go to other topics, which have names
pub record MayBeTold (kept : KeptTopic) : Type 0 where
  pub sequences : CountFromZero kept.log
  pub remembered : RememberFromZero kept.authors
  pub few : length kept.subscriptions ≤ 64
  pub targets : All (λ (sub : KeptPlaces). All (λ (d : DeadLetter). IsNamed d.target × (same_topic d.target kept.name ≡ false)) sub.dead) kept.subscriptions

-- a snapshot that is read where its rows stand: a topic may go on from it, rows may tell it, and its values are such as are read
pub record IsReadBack (kept : KeptTopic) : Type 0 where
  pub may : MayRestart kept
  pub told : MayBeTold kept
  pub size : IsLedgerSize kept.ledger_size
  pub messages : All IsReadableMessage kept.log
  pub authors : All (λ (a : Author). IsText 1 1280 a.name) kept.authors
  pub rule : MayBeRule kept.retention
  pub names : All (λ (sub : KeptPlaces). IsTrue (is_name sub.name) × IsUtf8 sub.name) kept.subscriptions
  pub texts : All (λ (sub : KeptPlaces). All (λ (d : DeadLetter). IsUtf8 (topic_text d.target)) sub.dead) kept.subscriptions
