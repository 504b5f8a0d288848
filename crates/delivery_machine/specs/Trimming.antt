-- Trimming: the first messages of a log, which no subscription needs any more, go; and the topic's own rule of what is kept.
use Rattle.std.specs.Prelude.{◌≡◌, ℕ, ◌+◌, ◌-◌, ◌*◌, ◌/◌, ◌^◌, ◌<◌, nat_lt, nat_le, min, Bool, not, ◌&&◌, ◌||◌, List, [], ◌∷◌, ◌++◌, if◌then◌else◌, codes, nat_eq, map, drop, take, length, Option}
use Rattle.std.specs.List.{list_all, list_any, prefix_len, starts_with}
use Rattle.std.specs.Int.{int_max}
use Rattle.std.specs.Str.{bytes_eq}
use Rattle.std.specs.FinSet as set
use Rattle.std.specs.FinMap as map_of
use Rattle.position_core.specs.declared.position.Position.{Position}
use Rattle.position_core.specs.declared.message.Entry.{Entry}
use Rattle.delivery_machine.specs.State.{State, Author, Subscription}
use Rattle.delivery_machine.specs.Words.{removed, is_by, is_connected, signed, signed_by, last_sequence, is_dead, visible}
use Rattle.delivery_machine.specs.Acknowledging.{is_one_of}
use Rattle.delivery_machine.specs.declared.retention.Retention.{Retention}
use Rattle.delivery_machine.specs.declared.reply.Reply.{Reply}
use Rattle.delivery_machine.specs.declared.reply.Reply.TheVariants.{Done, Trimmed, Untrimmed}

-- the subscription has done with the message: it is acknowledged, pending at nobody, and in no dead letter
abbrev pub is_done_with : Entry → Subscription → Bool
is_done_with e sub =
    set.contains sub.acknowledged e.position && not (map_of.contains_key sub.pending e.position) && not (is_dead sub e.position)

-- every subscription has done with the message, and there is one
abbrev pub is_done : State → Entry → Bool
is_done s e = nat_lt 0 (length s.subscriptions) && list_all (is_done_with e) s.subscriptions

-- the message may go: every subscription has done with it, and it is not later than the moment
abbrev pub may_go : State → ℕ → Entry → Bool
may_go s before e = is_done s e && nat_le e.time before

-- how many visible messages stand before the first that may not go
abbrev pub free_at_front : State → ℕ → ℕ
free_at_front s before = prefix_len (may_go s before) (visible s)

-- at most so many go: the last that may go stays, and so does the end of the log, so many messages
abbrev pub most_going : State → ℕ → ℕ → ℕ
most_going s keep before = min (free_at_front s before - 1) (length s.log - keep)

-- how many go: whole sixty-fours, no more than the most, and never more than 2^62 in all
abbrev pub going : State → ℕ → ℕ → ℕ → ℕ
going s keep before most = min (min most (2 ^ 62 - s.gone)) (most_going s keep before) / 64 * 64

-- nothing is known of the messages any more
abbrev pub without_messages : List Position → Subscription → Subscription
without_messages positions sub = record sub {
  acknowledged = set.difference sub.acknowledged (set.from_list positions);
  counts = map_of.retain_keys sub.counts (λ p. not (is_one_of positions p));
}

-- ---- what is remembered of them

abbrev pub is_author : List ℕ → Author → Bool
is_author name a = bytes_eq a.name name

-- the producer of a message that goes is remembered as the last, under the greatest of its numbers
abbrev pub with_author : ℕ → Entry → List Author → List Author
with_author index e authors =
    removed (is_author e.producer) authors
    ++ record { name = e.producer; sequence = int_max (last_sequence (map signed_by authors) e.producer e.sequence) e.sequence; index = index } ∷ []

-- so for each message, of which the first is the one of the index
abbrev pub with_authors : ℕ → List Entry → List Author → List Author
with_authors index [] authors = authors
with_authors index (e ∷ log) authors = with_authors (index + 1) log (with_author index e authors)

-- the name is never forgotten: its producer is connected, or moves dead letters, or one of its messages stays
abbrev pub is_lasting : State → List Entry → List ℕ → Bool
is_lasting s stay name = is_connected s name || starts_with nat_eq name (codes "dlq/") || list_any (is_by name) (map signed stay)

-- any other is forgotten where 4096 come after it
abbrev pub not_forgotten : State → List Entry → List Author → List Author
not_forgotten s stay [] = []
not_forgotten s stay (a ∷ authors) =
    if nat_lt (length authors) 4096 || is_lasting s stay a.name then a ∷ not_forgotten s stay authors else not_forgotten s stay authors

-- what is remembered where the first messages go, so many
abbrev pub remembered : ℕ → State → List Author
remembered count s = not_forgotten s (drop count s.log) (with_authors s.gone (take count s.log) s.authors)

-- ---- the event

-- the first messages are gone, so many
abbrev pub trimmed : ℕ → State → State
trimmed count s = record s {
  gone = s.gone + count;
  authors = remembered count s;
  log = drop count s.log;
  durable = s.durable - count;
  subscriptions = map (without_messages (map (λ e. e.position) (take count s.log))) s.subscriptions;
}

-- the messages go that may, or there are none
abbrev pub Trims : State → ℕ → ℕ → ℕ → Reply → State → Type 0
Trims s keep before most (Trimmed all) t =
    (0 < going s keep before most) × (all ≡ s.gone + going s keep before most) × (t ≡ trimmed (going s keep before most) s)
Trims s keep before most Untrimmed t = (going s keep before most ≡ 0) × (t ≡ s)
Trims s keep before most reply t = ⊥

-- ---- the topic's own rule

-- from now on the topic has this rule of its own, or none; a trim does not look at it
abbrev pub SetsRetention : State → Option Retention → Reply → State → Type 0
SetsRetention s retention reply t = (reply ≡ Done) × (t ≡ record s { retention = retention })
