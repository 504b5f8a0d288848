-- What a step does to members, the log and what is pending: six kinds of steps.
use Rattle.std.proofs.Common.{◌≡◌, ℕ, ◌+◌, List, [], ◌∷◌, ◌++◌, Some, Option, Bool, false, cond, refl}
use Rattle.std.specs.Prelude.{◌==◌, drop}
use Rattle.std.specs.List.{find}
use Rattle.position_core.specs.declared.message.Entry.{Entry}
use Rattle.position_core.specs.declared.flow.Flow.{Flow}
use Rattle.position_core.specs.declared.flow.Flow.TheVariants.{Window, Credit}
use Rattle.position_core.specs.Flow.{begun, granted, spent}
use Rattle.position_core.specs.declared.topic_name.TopicName.{TopicName}
use Rattle.position_core.specs.declared.ranges.HashRange.{HashRange}
use Rattle.position_core.specs.declared.kind.Kind.{Kind}
use Rattle.delivery_machine.specs.declared.event.Initial.{Initial}
use Rattle.delivery_machine.specs.State.{State, Subscription, Member}
use Rattle.delivery_machine.specs.Words.{changed, removed, is_named, next_position, IsEligible}
use Rattle.delivery_machine.specs.Delivering.{holding}
use Rattle.delivery_machine.specs.Laws.{sent_to, permitted_to, joins_to_pull}
use Rattle.delivery_machine.specs.declared.event.Event.{Event}
use Rattle.delivery_machine.specs.declared.event.Event.TheVariants.{Subscribe}
use Rattle.delivery_machine.specs.declared.reply.Reply.{Reply}
use Rattle.delivery_machine.specs.declared.reply.Reply.TheVariants.{Subscribed}
use Rattle.machine_laws.proofs.Seats.{Seat, seats, has_number}
use Rattle.machine_laws.proofs.Shrinking.{Shrinks}

-- the consumer joined to be pushed to
abbrev pub joins_to_push : ℕ → Event → Reply → Bool
joins_to_push consumer (Subscribe name kind level (Window size) ack_timeout nack_delay max_redeliver dead_topic initial ranges) (Subscribed number) = number == consumer
joins_to_push consumer event reply = false

abbrev pub SendsNone : Event → Reply → Type 0
SendsNone event reply = (consumer : ℕ) → sent_to consumer event reply ≡ 0

abbrev pub JoinsNone : Event → Reply → Type 0
JoinsNone event reply = (consumer : ℕ) → (joins_to_pull consumer event reply ≡ false) × (joins_to_push consumer event reply ≡ false)

-- members stay, no message comes, and no more is pending
pub record Stays (s : State) (event : Event) (reply : Reply) (t : State) : Type 0 where
  pub members_as : seats t.members ≡ seats s.members
  pub next_as : t.next_consumer ≡ s.next_consumer
  pub trims : ℕ
  pub log_as : t.log ≡ drop trims s.log
  pub shrinks : Shrinks s.subscriptions t.subscriptions
  pub sends : SendsNone event reply
  pub joins : JoinsNone event reply

-- a message is appended to the log
pub record Appends (s : State) (event : Event) (reply : Reply) (t : State) : Type 0 where
  pub members_as : seats t.members ≡ seats s.members
  pub next_as : t.next_consumer ≡ s.next_consumer
  pub e : Entry
  pub next : e.position ≡ next_position s
  pub log_as : t.log ≡ s.log ++ e ∷ []
  pub subscriptions_as : t.subscriptions ≡ s.subscriptions
  pub sends : SendsNone event reply
  pub joins : JoinsNone event reply

abbrev pub pulls_if : Flow → Bool → Bool
pulls_if (Window size) b = false
pulls_if (Credit left) b = b

abbrev pub pushes_if : Flow → Bool → Bool
pushes_if (Window size) b = b
pushes_if (Credit left) b = false

pub pulls_so : (consumer : ℕ) (name : List ℕ) (kind : Kind) (level : ℕ) (flow : Flow) (ack_timeout nack_delay max_redeliver : ℕ) (dead_topic : TopicName) (initial : Initial) (ranges : Option (List HashRange)) (number : ℕ)
    → joins_to_pull consumer (Subscribe name kind level flow ack_timeout nack_delay max_redeliver dead_topic initial ranges) (Subscribed number) ≡ pulls_if flow (number == consumer)
pulls_so consumer name kind level (Window size) ack_timeout nack_delay max_redeliver dead_topic initial ranges number = refl
pulls_so consumer name kind level (Credit left) ack_timeout nack_delay max_redeliver dead_topic initial ranges number = refl

pub pushes_so : (consumer : ℕ) (name : List ℕ) (kind : Kind) (level : ℕ) (flow : Flow) (ack_timeout nack_delay max_redeliver : ℕ) (dead_topic : TopicName) (initial : Initial) (ranges : Option (List HashRange)) (number : ℕ)
    → joins_to_push consumer (Subscribe name kind level flow ack_timeout nack_delay max_redeliver dead_topic initial ranges) (Subscribed number) ≡ pushes_if flow (number == consumer)
pushes_so consumer name kind level (Window size) ack_timeout nack_delay max_redeliver dead_topic initial ranges number = refl
pushes_so consumer name kind level (Credit left) ack_timeout nack_delay max_redeliver dead_topic initial ranges number = refl

-- a consumer joins under the next number
pub record Joins (s : State) (event : Event) (reply : Reply) (t : State) : Type 0 where
  pub name : List ℕ
  pub flow : Flow
  pub members_as : seats t.members ≡ seats s.members ++ record { number = s.next_consumer; name = name; flow = begun flow } ∷ []
  pub next_as : t.next_consumer ≡ s.next_consumer + 1
  pub log_as : t.log ≡ s.log
  pub shrinks : Shrinks s.subscriptions t.subscriptions
  pub sends : SendsNone event reply
  pub pulls : (consumer : ℕ) → joins_to_pull consumer event reply ≡ pulls_if flow (s.next_consumer == consumer)
  pub pushes : (consumer : ℕ) → joins_to_push consumer event reply ≡ pushes_if flow (s.next_consumer == consumer)

pub record Leaves (s : State) (event : Event) (reply : Reply) (t : State) : Type 0 where
  pub number : ℕ
  pub members_as : seats t.members ≡ removed (has_number number) (seats s.members)
  pub next_as : t.next_consumer ≡ s.next_consumer
  pub log_as : t.log ≡ s.log
  pub shrinks : Shrinks s.subscriptions t.subscriptions
  pub sends : SendsNone event reply
  pub joins : JoinsNone event reply

abbrev pub granting : ℕ → Seat → Seat
granting n x = record x { flow = granted n x.flow }

pub record Permits (s : State) (event : Event) (reply : Reply) (t : State) : Type 0 where
  pub number : ℕ
  pub permits : ℕ
  pub members_as : seats t.members ≡ changed (has_number number) (granting permits) (seats s.members)
  pub next_as : t.next_consumer ≡ s.next_consumer
  pub log_as : t.log ≡ s.log
  pub subscriptions_as : t.subscriptions ≡ s.subscriptions
  pub permitted_as : (consumer : ℕ) → permitted_to consumer event reply ≡ cond (number == consumer) permits 0
  pub sends : SendsNone event reply
  pub joins : JoinsNone event reply

abbrev pub spending : Seat → Seat
spending x = record x { flow = spent x.flow }

-- a message is sent to a member
pub record Sends (s : State) (event : Event) (reply : Reply) (t : State) : Type 0 where
  pub name : List ℕ
  pub sub : Subscription
  pub e : Entry
  pub m : Member
  pub due : Option ℕ
  pub found : find (is_named name) s.subscriptions ≡ Some sub
  pub eligible : IsEligible s sub e m
  pub members_as : seats t.members ≡ changed (has_number m.number) spending (seats s.members)
  pub next_as : t.next_consumer ≡ s.next_consumer
  pub log_as : t.log ≡ s.log
  pub subscriptions_as : t.subscriptions ≡ changed (is_named name) (holding e.position (record { consumer = m.number; due = due })) s.subscriptions
  pub sent_as : (consumer : ℕ) → sent_to consumer event reply ≡ cond (m.number == consumer) 1 0
  pub joins : JoinsNone event reply

pub data Moves (s : State) (event : Event) (reply : Reply) (t : State) : Type 0 where
  stays : Stays s event reply t → Moves s event reply t
  appends : Appends s event reply t → Moves s event reply t
  joins : Joins s event reply t → Moves s event reply t
  leaves : Leaves s event reply t → Moves s event reply t
  permits : Permits s event reply t → Moves s event reply t
  sends : Sends s event reply t → Moves s event reply t
