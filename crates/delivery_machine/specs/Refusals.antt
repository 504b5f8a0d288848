-- Why each event is refused, in the order of the tests. Being out of memory comes after all of them.
use Rattle.std.specs.Prelude.{ℕ, ◌^◌, nat_lt, nat_le, Bool, true, false, not, ◌&&◌, ◌||◌, length, List, Option, Some, None, is_some, if◌then◌else◌, ℤ, int_le}
use Rattle.std.specs.List.{list_any, find}
use Rattle.std.specs.Option.{option_map_or}
use Rattle.position_core.specs.declared.position.Position.{Position}
use Rattle.position_core.specs.declared.kind.Kind.{Kind}
use Rattle.position_core.specs.declared.kind.Kind.TheVariants.{Exclusive}
use Rattle.position_core.specs.declared.ranges.HashRange.{HashRange}
use Rattle.position_core.specs.declared.fault.Fault.{Fault}
use Rattle.position_core.specs.declared.fault.Fault.TheVariants.{ProducerBusy, NoSession, TopicFull, WrongKind, ConsumerBusy, TooMany, NoSuchMessage, NotCumulative, NotPending, NoSuchSubscription, SubscriptionBusy, DeadLetterSelf, HashOverlap, MixedPolicy}
use Rattle.position_core.specs.declared.topic_name.TopicName.{TopicName}
use Rattle.position_core.specs.Kind.{same_kind, is_in_order}
use Rattle.position_core.specs.TopicName.{same_topic}
use Rattle.position_core.specs.Flow.{granting_refused}
use Rattle.position_core.specs.Numbers.{ProducerNumber, ConsumerNumber, Ordinal}
use Rattle.delivery_machine.specs.State.{State, Producer, Member, Subscription}
use Rattle.delivery_machine.specs.Words.{known, is_producer, is_named, has_member, has_subscription, has_kind, is_in_order_at, is_held_at, is_member, is_connected, members_of, last_sequence, next_position, has_position, visible}
use Rattle.delivery_machine.specs.Dying.{is_next_letter}
use Rattle.delivery_machine.specs.Shares.{mixes, asks_taken}
use Rattle.delivery_machine.specs.declared.event.Target.{Target}
use Rattle.delivery_machine.specs.declared.event.Target.TheVariants.{Earliest, Latest, At}
use Rattle.delivery_machine.specs.declared.event.Event.{Event}
use Rattle.delivery_machine.specs.declared.event.Event.TheVariants.{AddProducer, DropProducer, Publish, Stored, StoredTo, Progress, Subscribe, Leave, Permit, Ack, AckUpTo, Nack, Tick, Seek, SeekTime, Skip, DropSubscription, Stats, Trim, SetRetention, Dispatch, Collect, DeadNext, DeadDone}

-- a counter has given all its numbers, which end at 2^63-1
abbrev pub is_used_up : ℕ → Bool
is_used_up next = nat_le (2 ^ 63) next

-- the name that is asked for, if any, is connected
abbrev pub is_busy : State → Option (List ℕ) → Bool
is_busy s None = false
is_busy s (Some name) = is_connected s name

abbrev pub adding_refused : State → Option (List ℕ) → Option Fault
adding_refused s name =
    if is_busy s name then Some ProducerBusy
    else if nat_le 256 (length s.producers) || is_used_up s.next_producer then Some TooMany
    else None

-- a producer that is not there is refused, and no other
abbrev pub producer_refused : State → ProducerNumber → Option Fault
producer_refused s producer = if is_some (find (is_producer producer) s.producers) then None else Some NoSession

-- a number that is not above the producer's last one was published before
abbrev pub is_duplicate : State → Producer → ℤ → Bool
is_duplicate s p sequence = int_le sequence (last_sequence (known s) p.name p.base)

-- the log has all messages that it may have, or the next message's ledger would pass 2^62
abbrev pub is_full : State → Bool
is_full s = nat_le 1048576 (length s.log) || nat_lt (2 ^ 62) (next_position s).ledger

abbrev pub publishing_refused : State → ℤ → Option Producer → Option Fault
publishing_refused s sequence None = Some NoSession
publishing_refused s sequence (Some p) =
    if is_duplicate s p sequence then None else if is_full s then Some TopicFull else None

-- messages of the new member would die into the topic itself
abbrev pub dies_into_itself : State → Kind → ℕ → TopicName → Bool
dies_into_itself s kind max_redeliver dead_topic = not (is_in_order kind) && nat_lt 0 max_redeliver && same_topic dead_topic s.name

-- the members have the other policy: they said which hashes they take, or did not
abbrev pub mixes_policies : State → List ℕ → Kind → Option (List HashRange) → Bool
mixes_policies s name kind ranges =
    nat_lt 0 (length (members_of s name)) && option_map_or (λ sub. mixes kind ranges sub.shares) (find (is_named name) s.subscriptions) false

abbrev pub overlaps : State → List ℕ → Kind → Option (List HashRange) → Bool
overlaps s name kind ranges = option_map_or (λ sub. asks_taken kind ranges sub.shares) (find (is_named name) s.subscriptions) false

abbrev pub subscribing_refused : State → List ℕ → Kind → ℕ → TopicName → Option (List HashRange) → Option Fault
subscribing_refused s name kind max_redeliver dead_topic ranges =
    if nat_lt 0 (length (members_of s name)) && not (has_kind s name kind) then Some WrongKind
    else if nat_lt 0 (length (members_of s name)) && same_kind kind Exclusive then Some ConsumerBusy
    else if mixes_policies s name kind ranges then Some MixedPolicy
    else if overlaps s name kind ranges then Some HashOverlap
    else if nat_le 64 (length (members_of s name)) then Some TooMany
    else if nat_le 64 (length s.subscriptions) && not (has_subscription s name) then Some TooMany
    else if is_used_up s.next_consumer then Some TooMany
    else if dies_into_itself s kind max_redeliver dead_topic then Some DeadLetterSelf
    else None

abbrev pub acking_refused : State → ConsumerNumber → Position → Option Fault
acking_refused s consumer position =
    if not (has_member s consumer) then Some NoSession
    else if not (list_any (has_position position) (visible s)) then Some NoSuchMessage
    else None

-- messages up to one are acknowledged only where one consumer takes them in order
abbrev pub acking_up_to_refused : State → Position → Option Member → Option Fault
acking_up_to_refused s position None = Some NoSession
acking_up_to_refused s position (Some m) =
    if not (is_in_order_at s m.subscription) then Some NotCumulative
    else if not (list_any (has_position position) (visible s)) then Some NoSuchMessage
    else None

abbrev pub nacking_refused : State → ConsumerNumber → Position → Option Member → Option Fault
nacking_refused s consumer position None = Some NoSession
nacking_refused s consumer position (Some m) = if is_held_at s m.subscription consumer position then None else Some NotPending

abbrev pub permitting_refused : ℕ → Option Member → Option Fault
permitting_refused n None = Some NoSession
permitting_refused n (Some m) = granting_refused n m.flow

-- a subscription that is not there is refused, and no other
abbrev pub absence_refused : State → List ℕ → Option Fault
absence_refused s name = if has_subscription s name then None else Some NoSuchSubscription

-- a seek to a message is refused where it is not visible
abbrev pub is_hidden : State → Target → Bool
is_hidden s Earliest = false
is_hidden s Latest = false
is_hidden s (At position) = not (list_any (has_position position) (visible s))

abbrev pub seeking_refused : State → List ℕ → Target → Option Fault
seeking_refused s name target =
    if not (has_subscription s name) then Some NoSuchSubscription else if is_hidden s target then Some NoSuchMessage else None

-- a subscription stays while it has members, or dead letters that are not moved yet
abbrev pub dropping_refused : State → List ℕ → Option Subscription → Option Fault
dropping_refused s name None = Some NoSuchSubscription
dropping_refused s name (Some sub) = if nat_lt 0 (length (members_of s name)) || nat_lt 0 (length sub.dead) then Some SubscriptionBusy else None

-- only the first letter that is safe may be done with
abbrev pub moving_refused : Ordinal → Option Subscription → Option Fault
moving_refused ordinal None = Some NoSuchSubscription
moving_refused ordinal (Some sub) = if is_next_letter ordinal sub then None else Some NoSuchMessage

-- a consumer that is not there is refused, and no other
abbrev pub session_refused : State → ConsumerNumber → Option Fault
session_refused s consumer = if has_member s consumer then None else Some NoSession

abbrev pub refusal_of : State → Event → Option Fault
refusal_of s (AddProducer name base) = adding_refused s name
refusal_of s (DropProducer producer) = producer_refused s producer
refusal_of s (Publish producer sequence body now) = publishing_refused s sequence (find (is_producer producer) s.producers)
refusal_of s Stored = None
refusal_of s (StoredTo count ordinal) = None
refusal_of s Progress = None
refusal_of s (Subscribe name kind level flow ack_timeout nack_delay max_redeliver dead_topic initial ranges) =
    subscribing_refused s name kind max_redeliver dead_topic ranges
refusal_of s (Leave consumer) = session_refused s consumer
refusal_of s (Permit consumer permits) = permitting_refused permits (find (is_member consumer) s.members)
refusal_of s (Ack consumer position) = acking_refused s consumer position
refusal_of s (AckUpTo consumer position) = acking_up_to_refused s position (find (is_member consumer) s.members)
refusal_of s (Nack consumer position now) = nacking_refused s consumer position (find (is_member consumer) s.members)
refusal_of s (Tick name now) = absence_refused s name
refusal_of s (Seek name target) = seeking_refused s name target
refusal_of s (SeekTime name time) = absence_refused s name
refusal_of s (Skip name count) = absence_refused s name
refusal_of s (DropSubscription name) = dropping_refused s name (find (is_named name) s.subscriptions)
refusal_of s (Stats name) = absence_refused s name
refusal_of s (Trim keep before most) = None
refusal_of s (SetRetention retention) = None
refusal_of s (Dispatch name now) = absence_refused s name
refusal_of s (Collect consumer) = session_refused s consumer
refusal_of s (DeadNext name) = absence_refused s name
refusal_of s (DeadDone name ordinal) = moving_refused ordinal (find (is_named name) s.subscriptions)

-- the event takes memory, and may be refused it
abbrev pub takes_memory : Event → Bool
takes_memory (AddProducer name base) = true
takes_memory (DropProducer producer) = false
takes_memory (Publish producer sequence body now) = true
takes_memory Stored = false
takes_memory (StoredTo count ordinal) = false
takes_memory Progress = false
takes_memory (Subscribe name kind level flow ack_timeout nack_delay max_redeliver dead_topic initial ranges) = true
takes_memory (Leave consumer) = false
takes_memory (Permit consumer permits) = false
takes_memory (Ack consumer position) = true
takes_memory (AckUpTo consumer position) = true
takes_memory (Nack consumer position now) = false
takes_memory (Tick name now) = true
takes_memory (Seek name target) = true
takes_memory (SeekTime name time) = true
takes_memory (Skip name count) = true
takes_memory (DropSubscription name) = false
takes_memory (Stats name) = false
takes_memory (Trim keep before most) = true
takes_memory (SetRetention retention) = false
takes_memory (Dispatch name now) = true
takes_memory (Collect consumer) = false
takes_memory (DeadNext name) = true
takes_memory (DeadDone name ordinal) = true
