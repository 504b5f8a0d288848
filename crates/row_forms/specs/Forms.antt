-- The rows of a topic: one for the topic, one for each message of its log, for each subscription, for each run of
-- acknowledged messages, for each dead letter, for each message that was redelivered and for each producer of messages that are
-- gone; and one where messages are gone, or the topic has a rule of its own of what is kept. Places are those among all messages that
-- the topic ever had.
use Rattle.std.specs.Prelude.{ℕ, ◌+◌, ◌-◌, ◌==◌, ◌≡◌, pos, ◌&&◌, List, [], ◌∷◌, ◌++◌, map, Option, Some, None, is_none, if◌then◌else◌}
use Rattle.std.specs.List.{flat_map}
use Rattle.std.specs.FinMap as map_of
use Rattle.sqlite.specs.declared.types.Value.TheVariants.{Int, Text as Words, Blob as Octets}
use Rattle.sqlite.specs.Order.{Row}
use Rattle.position_core.specs.declared.position.Position.{Position}
use Rattle.position_core.specs.declared.message.Entry.{Entry}
use Rattle.position_core.specs.declared.kind.Kind.{Kind}
use Rattle.position_core.specs.declared.kind.Kind.TheVariants.{Exclusive, Failover, Shared, KeyShared}
use Rattle.position_core.specs.Position.{same_position}
use Rattle.position_core.specs.TopicName.{topic_text}
use Rattle.ack_ranges.specs.Ranges.{AreRangesOf}
use Rattle.delivery_machine.specs.State.{Author, DeadLetter}
use Rattle.delivery_machine.specs.declared.retention.Retention.{Retention}
use Rattle.delivery_machine.specs.declared.retention.Retention.TheVariants.{All, Messages, Age}
use Rattle.delivery_machine.specs.Places.{KeptPlaces, KeptTopic}
use Rattle.row_forms.specs.Properties.{properties_text}

-- ---- one row

abbrev pub topic_row : KeptTopic → Row
topic_row kept =
    Words (topic_text kept.name) ∷ Int (pos kept.ledger_size) ∷ Int (pos kept.ledger) ∷ Int (pos kept.next_ordinal) ∷ []

-- 1 and the key, or 0 and an empty one
abbrev pub key_cells : Option (List ℕ) → Row
key_cells None = Int (pos 0) ∷ Words [] ∷ []
key_cells (Some key) = Int (pos 1) ∷ Words key ∷ []

-- the messages of a log, which had so many before them that are gone
pub record Span : Type 0 where
  pub gone : ℕ
  pub log : List Entry

abbrev pub span_of : KeptTopic → Span
span_of kept = record { gone = kept.gone; log = kept.log }

abbrev pub entry_row : List ℕ → ℕ → Entry → Row
entry_row topic place e =
    Words topic ∷ Int (pos place) ∷ Int (pos e.position.ledger) ∷ Int (pos e.position.entry) ∷ Words e.producer ∷ Int e.sequence ∷ Int (pos e.time)
    ∷ (key_cells e.body.key ++ Words (properties_text e.body.properties) ∷ Octets e.body.payload ∷ [])

abbrev pub kind_number : Kind → ℕ
kind_number Exclusive = 0
kind_number Failover = 1
kind_number Shared = 2
kind_number KeyShared = 3

abbrev pub sub_row : List ℕ → KeptPlaces → Row
sub_row topic sub = Words topic ∷ Words sub.name ∷ Int (pos (kind_number sub.kind)) ∷ []

-- a run, from its first place to its last; it is given by indexes of the log, with its end, the index after
abbrev pub ack_row : List ℕ → List ℕ → ℕ → ℕ × ℕ → Row
ack_row topic sub gone run = Words topic ∷ Words sub ∷ Int (pos (gone + run.0)) ∷ Int (pos (gone + (run.1 - 1))) ∷ []

-- the index of the message at the position, or the log's end
abbrev pub index_in : List Entry → Position → ℕ
index_in [] position = 0
index_in (e ∷ log) position = if same_position e.position position then 0 else index_in log position + 1

-- its place
abbrev pub place_in : Span → Position → ℕ
place_in span position = span.gone + index_in span.log position

abbrev pub dead_row : List ℕ → List ℕ → Span → DeadLetter → Row
dead_row topic sub span d =
    Words topic ∷ Words sub ∷ Int (pos d.ordinal) ∷ Int (pos (place_in span d.position)) ∷ Words (topic_text d.target) ∷ []

-- a message that was redelivered, and how often
abbrev pub count_row : List ℕ → List ℕ → Span → Position × ℕ → Row
count_row topic sub span counted = Words topic ∷ Words sub ∷ Int (pos (place_in span counted.0)) ∷ Int (pos counted.1) ∷ []

-- a producer of messages that are gone, by the place of the last of them
abbrev pub author_row : List ℕ → Author → Row
author_row topic a = Words topic ∷ Int (pos a.index) ∷ Words a.name ∷ Int a.sequence ∷ []

-- no rule of its own, or all, or so many messages, or so many milliseconds
abbrev pub rule_cells : Option Retention → Row
rule_cells None = Int (pos 0) ∷ Int (pos 0) ∷ []
rule_cells (Some All) = Int (pos 1) ∷ Int (pos 0) ∷ []
rule_cells (Some (Messages count)) = Int (pos 2) ∷ Int (pos count) ∷ []
rule_cells (Some (Age millis)) = Int (pos 3) ∷ Int (pos millis) ∷ []

abbrev pub retention_row : List ℕ → ℕ → Option Retention → Row
retention_row topic gone rule = Words topic ∷ Int (pos gone) ∷ rule_cells rule

-- ---- all rows of a topic

-- the messages from this place on
abbrev pub entry_rows : List ℕ → ℕ → List Entry → List Row
entry_rows topic from [] = []
entry_rows topic from (e ∷ log) = entry_row topic from e ∷ entry_rows topic (from + 1) log

abbrev pub sub_rows : List ℕ → List KeptPlaces → List Row
sub_rows topic subs = map (sub_row topic) subs

-- one row for each maximal run of places, of one subscription after the other
abbrev pub AreAckRows : List ℕ → ℕ → List KeptPlaces → List Row → Type 0
AreAckRows topic gone [] rows = rows ≡ []
AreAckRows topic gone (sub ∷ subs) rows =
    (runs : List (ℕ × ℕ)) × (others : List Row) × AreRangesOf sub.acknowledged runs × AreAckRows topic gone subs others × (rows ≡ map (ack_row topic sub.name gone) runs ++ others)

abbrev pub dead_rows : List ℕ → Span → List KeptPlaces → List Row
dead_rows topic span subs = flat_map (λ (sub : KeptPlaces). map (dead_row topic sub.name span) sub.dead) subs

abbrev pub count_rows : List ℕ → Span → List KeptPlaces → List Row
count_rows topic span subs = flat_map (λ (sub : KeptPlaces). map (count_row topic sub.name span) (map_of.entries sub.counts)) subs

abbrev pub author_rows : List ℕ → List Author → List Row
author_rows topic authors = map (author_row topic) authors

-- none, where no message is gone and the topic has no rule of its own
abbrev pub retention_rows : List ℕ → ℕ → Option Retention → List Row
retention_rows topic gone rule = if gone == 0 && is_none rule then [] else retention_row topic gone rule ∷ []

-- the rows of one topic, table by table
pub record TopicRows : Type 0 where
  pub topics : List Row
  pub entries : List Row
  pub subs : List Row
  pub acks : List Row
  pub deads : List Row
  pub counts : List Row
  pub authors : List Row
  pub retentions : List Row

-- no rows at all
abbrev pub no_rows : TopicRows
no_rows = record { topics = []; entries = []; subs = []; acks = []; deads = []; counts = []; authors = []; retentions = [] }

pub record AreRowsOf (kept : KeptTopic) (rows : TopicRows) : Type 0 where
  pub topics : rows.topics ≡ topic_row kept ∷ []
  pub entries : rows.entries ≡ entry_rows (topic_text kept.name) kept.gone kept.log
  pub subs : rows.subs ≡ sub_rows (topic_text kept.name) kept.subscriptions
  pub acks : AreAckRows (topic_text kept.name) kept.gone kept.subscriptions rows.acks
  pub deads : rows.deads ≡ dead_rows (topic_text kept.name) (span_of kept) kept.subscriptions
  pub counts : rows.counts ≡ count_rows (topic_text kept.name) (span_of kept) kept.subscriptions
  pub authors : rows.authors ≡ author_rows (topic_text kept.name) kept.authors
  pub retentions : rows.retentions ≡ retention_rows (topic_text kept.name) kept.gone kept.retention
