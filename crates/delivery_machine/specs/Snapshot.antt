-- Snapshots: what a store keeps of a topic, and the topic that goes on from it.
use Rattle.std.specs.Prelude.{ℕ, ◌+◌, ◌^◌, min, List, [], map, length, Option}
use Rattle.std.specs.FinSet as set
use Rattle.std.specs.FinMap as map_of
use Rattle.position_core.specs.declared.topic_name.TopicName.{TopicName}
use Rattle.position_core.specs.declared.message.Entry.{Entry}
use Rattle.position_core.specs.declared.kind.Kind.{Kind}
use Rattle.position_core.specs.Position.{position_cmp}
use Rattle.delivery_machine.specs.Shares.{no_shares}
use Rattle.delivery_machine.specs.State.{State, Author, Subscription, DeadLetter}
use Rattle.delivery_machine.specs.declared.retention.Retention.{Retention}

-- what is kept of a subscription
pub record KeptSubscription : Type 0 where
  pub name : List ℕ
  pub kind : Kind
  pub acknowledged : set.FinSet position_cmp
  pub counts : map_of.FinMap position_cmp ℕ
  pub dead : List DeadLetter

pub record Snapshot : Type 0 where
  pub name : TopicName
  pub ledger_size : ℕ
  pub ledger : ℕ
  pub next_ordinal : ℕ
  pub gone : ℕ
  pub authors : List Author
  pub retention : Option Retention
  pub log : List Entry
  pub subscriptions : List KeptSubscription

abbrev pub kept_of : Subscription → KeptSubscription
kept_of sub = record { name = sub.name; kind = sub.kind; acknowledged = sub.acknowledged; counts = sub.counts; dead = sub.dead }

abbrev pub snapshot_of : State → Snapshot
snapshot_of s = record {
  name = s.name;
  ledger_size = s.ledger_size;
  ledger = s.ledger;
  next_ordinal = s.next_ordinal;
  gone = s.gone;
  authors = s.authors;
  retention = s.retention;
  log = s.log;
  subscriptions = map kept_of s.subscriptions;
}

-- a subscription without members, in which nothing is pending
abbrev pub subscription_from : KeptSubscription → Subscription
subscription_from kept = record {
  name = kept.name;
  kind = kept.kind;
  acknowledged = kept.acknowledged;
  pending = map_of.empty;
  counts = kept.counts;
  shares = no_shares;
  dead = kept.dead;
  safe = length kept.dead;
}

-- all is stored, nobody is there, and messages go into the next ledger; 2^62 + 1 is the last
abbrev pub restarted : Snapshot → State
restarted kept = record {
  name = kept.name;
  ledger_size = kept.ledger_size;
  ledger = min (kept.ledger + 1) (2 ^ 62 + 1);
  next_ordinal = kept.next_ordinal;
  next_producer = 1;
  next_consumer = 1;
  gone = kept.gone;
  authors = kept.authors;
  retention = kept.retention;
  log = kept.log;
  durable = length kept.log;
  producers = [];
  members = [];
  subscriptions = map subscription_from kept.subscriptions;
}
