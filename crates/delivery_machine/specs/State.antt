-- The state of a topic: what the machine knows, and no more.
--
-- How the words of these definitions are made: a word in -ing changes a subscription or a member (`holding`, `leaving`);
-- a participle, or a word with `with_` or `without_`, changes a state (`sent`, `stored`, `with_message`); a capital letter
-- begins a relation or a fact (`Acks`, `IsEligible`); a word that ends in `_in` speaks of a log or of members alone, and the
-- same word of a state has no such end (`has_room_in`, `has_room`). A message stands at an index of the log, and
-- anything else at a place of its list, both from 0 on.
use Rattle.std.specs.Prelude.{ℕ, List, [], Option, None, ℤ}
use Rattle.std.specs.FinSet.{FinSet}
use Rattle.std.specs.FinMap.{FinMap}
use Rattle.position_core.specs.declared.position.Position.{Position}
use Rattle.position_core.specs.declared.topic_name.TopicName.{TopicName}
use Rattle.position_core.specs.declared.message.Entry.{Entry}
use Rattle.position_core.specs.declared.held.Held.{Held}
use Rattle.position_core.specs.declared.kind.Kind.{Kind}
use Rattle.position_core.specs.declared.flow.Flow.{Flow}
use Rattle.position_core.specs.Position.{position_cmp}
use Rattle.position_core.specs.Numbers.{ProducerNumber, ConsumerNumber, Ordinal}
use Rattle.delivery_machine.specs.Shares.{Shares}
use Rattle.delivery_machine.specs.declared.delivery.Delivery.{Delivery}
use Rattle.delivery_machine.specs.declared.retention.Retention.{Retention}

-- a connected producer; `base` stands for its last sequence number where none of its messages is known
pub record Producer : Type 0 where
  pub number : ProducerNumber
  pub name : List ℕ
  pub base : ℤ

-- a producer of messages that are gone: the greatest of their numbers, and which message of all that the topic had was the last of them
pub record Author : Type 0 where
  pub name : List ℕ
  pub sequence : ℤ
  pub index : ℕ

-- a consumer of a subscription; `out` is what it was sent and has not collected
pub record Member : Type 0 where
  pub number : ConsumerNumber
  pub subscription : List ℕ
  pub level : ℕ
  pub flow : Flow
  pub ack_timeout : ℕ
  pub nack_delay : ℕ
  pub max_redeliver : ℕ
  pub dead_topic : TopicName
  pub out : List Delivery

-- a message that was redelivered too often, and the topic that it goes to
pub record DeadLetter : Type 0 where
  pub position : Position
  pub target : TopicName
  pub ordinal : Ordinal

-- `counts` has the messages that were redelivered; `shares` says who has which hashes in Key_Shared; the first `safe` dead
-- letters are stored
pub record Subscription : Type 0 where
  pub name : List ℕ
  pub kind : Kind
  pub acknowledged : FinSet position_cmp
  pub pending : FinMap position_cmp Held
  pub counts : FinMap position_cmp ℕ
  pub shares : Shares
  pub dead : List DeadLetter
  pub safe : ℕ

-- producers and members stand in order of joining, subscriptions in order of their names; `gone` messages stood before those of the
-- log and were taken out of it, and `authors` is what is remembered of them; `retention` is the topic's own rule of what is kept, where
-- it has one; the first `durable` messages of the log are stored
pub record State : Type 0 where
  pub name : TopicName
  pub ledger_size : ℕ
  pub ledger : ℕ
  pub next_ordinal : Ordinal
  pub next_producer : ProducerNumber
  pub next_consumer : ConsumerNumber
  pub gone : ℕ
  pub authors : List Author
  pub retention : Option Retention
  pub log : List Entry
  pub durable : ℕ
  pub producers : List Producer
  pub members : List Member
  pub subscriptions : List Subscription

-- a topic with nothing in it
abbrev pub fresh : TopicName → ℕ → State
fresh name ledger_size = record {
  name = name;
  ledger_size = ledger_size;
  ledger = 0;
  next_ordinal = 0;
  next_producer = 1;
  next_consumer = 1;
  gone = 0;
  authors = [];
  retention = None;
  log = [];
  durable = 0;
  producers = [];
  members = [];
  subscriptions = [];
}
