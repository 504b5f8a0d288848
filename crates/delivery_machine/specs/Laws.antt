-- Laws over every run: what a service relies on.
use Rattle.std.specs.Prelude.{codes, nat_eq, ◌≡◌, ◌≢◌, ℕ, ◌+◌, ◌≤◌, ◌==◌, Bool, false, ◌&&◌, ◌||◌, List, [], ◌∷◌, ◌++◌, map, length, Some, None, ◌⊎◌, if◌then◌else◌, IsTrue}
use Rattle.std.specs.List.{All, Contains, filter, find, list_any, starts_with}
use Rattle.std.specs.Option.{option_map_or}
use Rattle.std.specs.Str.{bytes_eq}
use Rattle.std.specs.FinSet as set
use Rattle.std.specs.FinMap as map_of
use Rattle.position_core.specs.declared.position.Position.{Position}
use Rattle.position_core.specs.declared.topic_name.TopicName.{TopicName}
use Rattle.position_core.specs.declared.message.Entry.{Entry}
use Rattle.position_core.specs.declared.body.Content.{Content}
use Rattle.position_core.specs.declared.held.Held.{Held}
use Rattle.position_core.specs.declared.flow.Flow.TheVariants.{Window, Credit}
use Rattle.position_core.specs.declared.kind.Kind.TheVariants.{Exclusive, Shared, KeyShared}
use Rattle.position_core.specs.Position.{same_position}
use Rattle.position_core.specs.Kind.{is_in_order}
use Rattle.delivery_machine.specs.State.{State, Subscription, Member, fresh}
use Rattle.delivery_machine.specs.Words.{is_by, is_connected, known, signed, greatest_under, is_named, is_member, is_held_by, is_live, has_position, next_position, count_of, hash_of, waits_with_hash, visible, pending_at, active_at}
use Rattle.delivery_machine.specs.Statistics.{mark_delete}
use Rattle.delivery_machine.specs.Acknowledging.{is_one_of}
use Rattle.delivery_machine.specs.Seeking.{first_live}
use Rattle.delivery_machine.specs.Ticking.{pending_positions}
use Rattle.delivery_machine.specs.Snapshot.{Snapshot, snapshot_of, restarted}
use Rattle.delivery_machine.specs.Producing.{had, stored, stored_to}
use Rattle.delivery_machine.specs.declared.delivery.Delivery.{Delivery}
use Rattle.delivery_machine.specs.WellFormed.{IsSound, IsWellFormed}
use Rattle.delivery_machine.specs.Run.{Answers, Run}
use Rattle.delivery_machine.specs.declared.event.Event.{Event}
use Rattle.delivery_machine.specs.declared.event.Event.TheVariants.{Trim, Subscribe, Permit, Seek, SeekTime, DropSubscription, Dispatch}
use Rattle.delivery_machine.specs.declared.reply.Reply.{Reply}
use Rattle.delivery_machine.specs.declared.reply.Reply.TheVariants.{Subscribed, Done, Sent}

-- ---- where a run begins

-- a topic with nothing in it, or one that goes on from a sound snapshot
abbrev pub IsBeginning : State → Type 0
IsBeginning s =
    ((name : TopicName) × (ledger_size : ℕ) × (s ≡ fresh name ledger_size))
    ⊎ ((kept : Snapshot) × IsSound kept × (s ≡ restarted kept))

-- a run comes to the state
abbrev pub IsReached : State → Type 0
IsReached t = (s : State) × (events : List Event) × (replies : List Reply) × IsBeginning s × Run s events replies t

-- it holds of every state that a run comes to
abbrev pub HoldsAlways : (State → Type 0) → Type 0
HoldsAlways P = (s : State) (events : List Event) (replies : List Reply) (t : State) → IsBeginning s → Run s events replies t → P t

-- ---- what was answered in a run

-- some event was answered so
abbrev pub some_answer : (Event → Reply → Bool) → List Event → List Reply → Bool
some_answer p (event ∷ events) (reply ∷ replies) = p event reply || some_answer p events replies
some_answer p events replies = false

-- the sum of the numbers that the answers count for
abbrev pub sum_of_answers : (Event → Reply → ℕ) → List Event → List Reply → ℕ
sum_of_answers n (event ∷ events) (reply ∷ replies) = n event reply + sum_of_answers n events replies
sum_of_answers n events replies = 0

-- whatever a message holds, some run of a topic with nothing in it comes to this
abbrev pub MayCome : (Content → List Event → List Reply → State → Type 0) → Type 0
MayCome P =
    (name : TopicName) (body : Content)
    → (events : List Event) × (replies : List Reply) × (t : State) × Run (fresh name 1) events replies t × P body events replies t

-- ---- no redelivery after acknowledgement

-- the message is acknowledged in the subscription of the name
abbrev pub is_acknowledged_at : State → List ℕ → Position → Bool
is_acknowledged_at s name position = option_map_or (λ sub. set.contains sub.acknowledged position) (find (is_named name) s.subscriptions) false

-- the subscription of the name was sought, or dropped
abbrev pub is_reset : List ℕ → Event → Reply → Bool
is_reset name (Seek other target) Done = bytes_eq other name
is_reset name (SeekTime other time) Done = bytes_eq other name
is_reset name (DropSubscription other) Done = bytes_eq other name
is_reset name event reply = false

-- the message was sent in the subscription of the name
abbrev pub is_sent_at : List ℕ → Position → Event → Reply → Bool
is_sent_at name position (Dispatch other now) (Sent consumer p count) = bytes_eq other name && same_position p position
is_sent_at name position event reply = false

-- from whatever state that a run comes to, in which a message is acknowledged, the message is not sent again, unless the subscription is sought or dropped
abbrev pub AcknowledgedStays : Type 0
AcknowledgedStays =
    (s : State) (events : List Event) (replies : List Reply) (t : State) → IsReached s → Run s events replies t
    → (name : List ℕ) (position : Position) → IsTrue (is_acknowledged_at s name position)
    → some_answer (is_reset name) events replies ≡ false → some_answer (is_sent_at name position) events replies ≡ false

-- the message was sent in a subscription, and is acknowledged there
abbrev pub IsSentAndAcknowledged : Content → List Event → List Reply → State → Type 0
IsSentAndAcknowledged body events replies s =
    (name : List ℕ) × (e : Entry) × Contains s.log e × (e.body ≡ body)
    × IsTrue (some_answer (is_sent_at name e.position) events replies) × IsTrue (is_acknowledged_at s name e.position)

-- ---- permits and windows

-- the consumer joined to pull
abbrev pub joins_to_pull : ℕ → Event → Reply → Bool
joins_to_pull consumer (Subscribe name kind level (Credit left) ack_timeout nack_delay max_redeliver dead_topic initial ranges) (Subscribed number) = number == consumer
joins_to_pull consumer event reply = false

abbrev pub sent_to : ℕ → Event → Reply → ℕ
sent_to consumer (Dispatch name now) (Sent number position count) = if number == consumer then 1 else 0
sent_to consumer event reply = 0

abbrev pub permitted_to : ℕ → Event → Reply → ℕ
permitted_to consumer (Permit number permits) Done = if number == consumer then permits else 0
permitted_to consumer event reply = 0

-- a consumer that joined to pull is sent at most as many messages as it was permitted
abbrev pub PermitsBound : Type 0
PermitsBound =
    (s : State) (events : List Event) (replies : List Reply) (t : State) → IsBeginning s → Run s events replies t
    → (consumer : ℕ) → IsTrue (some_answer (joins_to_pull consumer) events replies)
    → sum_of_answers (sent_to consumer) events replies ≤ sum_of_answers (permitted_to consumer) events replies

-- at a consumer that is pushed to, never more messages are pending than the size of its window
abbrev pub WindowsBound : Type 0
WindowsBound =
    (s : State) (events : List Event) (replies : List Reply) (t : State) → IsBeginning s → Run s events replies t
    → (consumer size : ℕ) (m : Member) (sub : Subscription) → find (is_member consumer) t.members ≡ Some m → m.flow ≡ Window size
    → find (is_named m.subscription) t.subscriptions ≡ Some sub → pending_at t sub consumer ≤ size

abbrev pub PermitsAndWindowsBound : Type 0
PermitsAndWindowsBound = PermitsBound × WindowsBound

-- a consumer that joined to pull was permitted the one message, and was sent it
abbrev pub IsSentByPermit : Content → List Event → List Reply → State → Type 0
IsSentByPermit body events replies s =
    (consumer : ℕ) × (e : Entry) × (s.log ≡ e ∷ []) × (e.body ≡ body) × IsTrue (some_answer (joins_to_pull consumer) events replies)
    × (sum_of_answers (permitted_to consumer) events replies ≡ 1) × (sum_of_answers (sent_to consumer) events replies ≡ 1)

-- the one message fills the window of a consumer
abbrev pub FillsWindow : Content → List Event → List Reply → State → Type 0
FillsWindow body events replies s =
    (consumer : ℕ) × (m : Member) × (sub : Subscription) × (e : Entry) × (s.log ≡ e ∷ []) × (e.body ≡ body)
    × (find (is_member consumer) s.members ≡ Some m) × (m.flow ≡ Window 1)
    × (find (is_named m.subscription) s.subscriptions ≡ Some sub) × (pending_at s sub consumer ≡ 1)

abbrev pub PermitsAndWindowsMayBeUsed : Type 0
PermitsAndWindowsMayBeUsed = MayCome IsSentByPermit × MayCome FillsWindow

-- ---- order at the active member

-- the messages that are pending are the first live ones, and are all pending at the active member
abbrev pub IsInOrderAtActive : State → Subscription → Type 0
IsInOrderAtActive s sub =
    (pending_positions s sub ≡ first_live s sub (length (pending_positions s sub)))
    × ((position : Position) (held : Held) → map_of.get sub.pending position ≡ Some held → IsTrue (is_one_of (pending_positions s sub) position) × (active_at s sub.name ≡ Some held.consumer))

-- whatever is sent next in the subscription of the name is the live message after those that are pending, and goes to the active member
abbrev pub SendsNextLive : State → List ℕ → Subscription → Type 0
SendsNextLive s name sub =
    (now consumer count : ℕ) (position : Position) (t : State) → Answers s (Dispatch name now) (Sent consumer position count) t
    → (first_live s sub (length (pending_positions s sub) + 1) ≡ pending_positions s sub ++ position ∷ []) × (active_at s name ≡ Some consumer)

-- in an Exclusive or Failover subscription, after every run, the first live messages are pending at the active member, and each message is sent as the next live one
abbrev pub OrderAtActive : Type 0
OrderAtActive =
    (s : State) (events : List Event) (replies : List Reply) (t : State) → IsBeginning s → Run s events replies t
    → (name : List ℕ) (sub : Subscription) → find (is_named name) t.subscriptions ≡ Some sub → IsTrue (is_in_order sub.kind)
    → IsInOrderAtActive t sub × SendsNextLive t name sub

-- two messages fill the window of the one member of an Exclusive subscription, in the order of the log
abbrev pub ArePendingInOrder : Content → List Event → List Reply → State → Type 0
ArePendingInOrder body events replies s =
    (m : Member) × (sub : Subscription) × (x : Entry) × (y : Entry)
    × (s.members ≡ m ∷ []) × (m.flow ≡ Window 2) × (find (is_named m.subscription) s.subscriptions ≡ Some sub) × (sub.kind ≡ Exclusive)
    × (s.log ≡ x ∷ y ∷ []) × (visible s ≡ s.log) × (x.body ≡ body) × (y.body ≡ body)
    × (pending_positions s sub ≡ x.position ∷ y.position ∷ [])
    × IsTrue (is_held_by m.number (map_of.get sub.pending x.position)) × IsTrue (is_held_by m.number (map_of.get sub.pending y.position))

-- ---- one hash at one consumer

-- two messages of one hash that are pending are pending at one consumer
abbrev pub NoHashAtTwo : State → Subscription → Type 0
NoHashAtTwo s sub =
    (x y : Entry) → Contains s.log x → Contains s.log y → hash_of x ≡ hash_of y
    → (h k : Held) → map_of.get sub.pending x.position ≡ Some h → map_of.get sub.pending y.position ≡ Some k → h.consumer ≡ k.consumer

-- the message at the position is the first of its hash that waits
abbrev pub IsFirstOfItsHash : State → Subscription → Position → Type 0
IsFirstOfItsHash s sub position =
    (e : Entry) × (e.position ≡ position) × (find (waits_with_hash sub (hash_of e)) (visible s) ≡ Some e)

-- whatever is sent next in the subscription of the name is the first of its hash that waits
abbrev pub SendsFirstOfHash : State → List ℕ → Subscription → Type 0
SendsFirstOfHash s name sub =
    (now consumer count : ℕ) (position : Position) (t : State) → Answers s (Dispatch name now) (Sent consumer position count) t → IsFirstOfItsHash s sub position

-- in a Key_Shared subscription, after every run, no hash is pending at two consumers, and each message is sent as the first of its hash
abbrev pub OneHashAtOneConsumer : Type 0
OneHashAtOneConsumer =
    (s : State) (events : List Event) (replies : List Reply) (t : State) → IsBeginning s → Run s events replies t
    → (name : List ℕ) (sub : Subscription) → find (is_named name) t.subscriptions ≡ Some sub → sub.kind ≡ KeyShared
    → NoHashAtTwo t sub × SendsFirstOfHash t name sub

-- in a Key_Shared subscription two messages of one hash are pending at one consumer, and one of another hash at another
abbrev pub ArePendingInKeyShared : Content → List Event → List Reply → State → Type 0
ArePendingInKeyShared body events replies s =
    (name : List ℕ) × (sub : Subscription) × (x : Entry) × (y : Entry) × (z : Entry) × (one : ℕ) × (other : ℕ)
    × (find (is_named name) s.subscriptions ≡ Some sub) × (sub.kind ≡ KeyShared)
    × (s.log ≡ x ∷ y ∷ z ∷ []) × (x.body ≡ body) × (y.body ≡ body) × (hash_of x ≡ hash_of y) × (hash_of x ≢ hash_of z) × (one ≢ other)
    × IsTrue (is_held_by one (map_of.get sub.pending x.position)) × IsTrue (is_held_by one (map_of.get sub.pending y.position))
    × IsTrue (is_held_by other (map_of.get sub.pending z.position))

-- ---- well-formed states

abbrev pub ReachedAreWellFormed : Type 0
ReachedAreWellFormed = HoldsAlways IsWellFormed

-- so that a run may begin from any of them
abbrev pub SnapshotsAreSound : Type 0
SnapshotsAreSound = HoldsAlways (λ t. IsSound (snapshot_of t))

-- to store everything is to store up to the last message that the topic has had, and up to the next ordinal
abbrev pub StoredIsStoredTo : Type 0
StoredIsStoredTo = HoldsAlways (λ t. stored t ≡ stored_to t (had t) t.next_ordinal)

-- ---- trimming

-- a subscription has all that it had: live messages, pending ones, how often each that stays was redelivered, dead letters and
-- the message of each, and the position up to which all is acknowledged
pub record HasAll (s t : State) (old new : Subscription) : Type 0 where
  pub live : filter (is_live new) t.log ≡ filter (is_live old) s.log
  pub shown : filter (is_live new) (visible t) ≡ filter (is_live old) (visible s)
  pub pending : new.pending ≡ old.pending
  pub counts : All (λ e. count_of new e.position ≡ count_of old e.position) t.log
  pub dead : new.dead ≡ old.dead
  pub safe : new.safe ≡ old.safe
  pub letters : All (λ d. find (has_position d.position) t.log ≡ find (has_position d.position) s.log) old.dead
  pub mark : mark_delete new t.log ≡ mark_delete old s.log

-- each subscription has all that it had, members what they have not collected, and the next message comes at the same position, as
-- the same of all messages; the last number under a name is the same where its producer is connected, moves dead letters or has a
-- message that stays, and under any other name too, or there is none, as of a new one
pub record LosesNothing (s t : State) : Type 0 where
  pub subscriptions : (name : List ℕ) (old : Subscription) → find (is_named name) s.subscriptions ≡ Some old
      → (new : Subscription) × (find (is_named name) t.subscriptions ≡ Some new) × HasAll s t old new
  pub names : map (λ sub. sub.name) t.subscriptions ≡ map (λ sub. sub.name) s.subscriptions
  pub members : t.members ≡ s.members
  pub producers : t.producers ≡ s.producers
  pub retention : t.retention ≡ s.retention
  pub connected : (name : List ℕ) → IsTrue (is_connected s name) → greatest_under name (known t) ≡ greatest_under name (known s)
  pub couriers : (name : List ℕ) → IsTrue (starts_with nat_eq name (codes "dlq/")) → greatest_under name (known t) ≡ greatest_under name (known s)
  pub standing : (name : List ℕ) → IsTrue (list_any (is_by name) (map signed t.log)) → greatest_under name (known t) ≡ greatest_under name (known s)
  pub numbers : (name : List ℕ)
      → (greatest_under name (known t) ≡ greatest_under name (known s)) ⊎ (greatest_under name (known t) ≡ None)
  pub next : next_position t ≡ next_position s
  pub had_so_many : had t ≡ had s
  pub durable : t.gone + t.durable ≡ s.gone + s.durable

-- a trim loses nothing that anybody needs
abbrev pub TrimsLoseNothing : Type 0
TrimsLoseNothing = (s : State) (keep before most : ℕ) (reply : Reply) (t : State) → IsReached s → Answers s (Trim keep before most) reply t → LosesNothing s t

-- all messages that the topic had are gone but one
abbrev pub AreGone : Content → List Event → List Reply → State → Type 0
AreGone body events replies s = (e : Entry) × (s.log ≡ e ∷ []) × (e.body ≡ body) × (s.gone ≡ 64)

-- the message is pending in a Shared subscription at a consumer, and is what it has not collected
abbrev pub IsPendingInShared : Content → List Event → List Reply → State → Type 0
IsPendingInShared body events replies s =
    (m : Member) × (sub : Subscription) × (d : Delivery) × Contains s.members m × (m.out ≡ d ∷ []) × (d.message.body ≡ body)
    × (find (is_named m.subscription) s.subscriptions ≡ Some sub) × (sub.kind ≡ Shared)
    × IsTrue (is_held_by m.number (map_of.get sub.pending d.message.position))
