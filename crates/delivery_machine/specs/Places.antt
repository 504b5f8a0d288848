-- What a program keeps by place in the log, in the machine's words: the set of the positions that stand there.
use Rattle.std.specs.Prelude.{◌≡◌, ℕ, suc, ◌<◌, ◌≤◌, Bool, true, cond, List, [], ◌∷◌, length, map, All, Option}
use Rattle.std.specs.Ordering.{nat_cmp}
use Rattle.std.specs.FinSet as set
use Rattle.std.specs.FinMap as map_of
use Rattle.position_core.specs.declared.position.Position.{Position}
use Rattle.position_core.specs.declared.topic_name.TopicName.{TopicName}
use Rattle.position_core.specs.declared.message.Entry.{Entry}
use Rattle.position_core.specs.declared.kind.Kind.{Kind}
use Rattle.position_core.specs.Position.{position_cmp}
use Rattle.delivery_machine.specs.State.{Author, DeadLetter}
use Rattle.delivery_machine.specs.declared.retention.Retention.{Retention}
use Rattle.delivery_machine.specs.Snapshot.{KeptSubscription, Snapshot}
use Rattle.delivery_machine.specs.WellFormed.{IsSound}

-- the positions of the messages at whose places the test passes, where the first message stands at the given place
abbrev pub positions_from : ℕ → (ℕ → Bool) → List Entry → List Position
positions_from place p [] = []
positions_from place p (e ∷ log) = cond (p place) (e.position ∷ positions_from (suc place) p log) (positions_from (suc place) p log)

-- the positions of the messages that stand at the places
abbrev pub positions_at : List Entry → set.FinSet nat_cmp → set.FinSet position_cmp
positions_at log places = set.from_list (positions_from 0 (set.contains places) log)

-- what is kept of a subscription, where `acknowledged` has places in the log
pub record KeptPlaces : Type 0 where
  pub name : List ℕ
  pub kind : Kind
  pub acknowledged : set.FinSet nat_cmp
  pub counts : map_of.FinMap position_cmp ℕ
  pub dead : List DeadLetter

abbrev pub kept_in : List Entry → KeptPlaces → KeptSubscription
kept_in log kept = record { name = kept.name; kind = kept.kind; acknowledged = positions_at log kept.acknowledged; counts = kept.counts; dead = kept.dead }

-- what is kept of a topic, where `acknowledged` has places in the log
pub record KeptTopic : Type 0 where
  pub name : TopicName
  pub ledger_size : ℕ
  pub ledger : ℕ
  pub next_ordinal : ℕ
  pub gone : ℕ
  pub authors : List Author
  pub retention : Option Retention
  pub log : List Entry
  pub subscriptions : List KeptPlaces

-- the snapshot that is so kept
abbrev pub snapshot_in : KeptTopic → Snapshot
snapshot_in kept = record {
  name = kept.name;
  ledger_size = kept.ledger_size;
  ledger = kept.ledger;
  next_ordinal = kept.next_ordinal;
  gone = kept.gone;
  authors = kept.authors;
  retention = kept.retention;
  log = kept.log;
  subscriptions = map (kept_in kept.log) kept.subscriptions;
}

abbrev pub AreBelow : ℕ → set.FinSet nat_cmp → Type 0
AreBelow end places = (place : ℕ) → set.contains places place ≡ true → place < end

-- a topic may go on from it: it is sound, its log is no longer than a topic's, and its places are those of messages
pub record MayRestart (kept : KeptTopic) : Type 0 where
  pub sound : IsSound (snapshot_in kept)
  pub short : length kept.log ≤ 1048576
  pub within : All (λ (sub : KeptPlaces). AreBelow (length kept.log) sub.acknowledged) kept.subscriptions
