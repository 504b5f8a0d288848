-- The machine's state that a topic's parts stand for, and what ties the parts to one another.
use Rattle.std.specs.Prelude.{◌≡◌, ℕ, ◌+◌, true, List, Some, map, slice_get}
use Rattle.std.specs.List.{All}
use Rattle.std.specs.FinMap as map_of
use Rattle.position_core.specs.declared.position.Position.{Position}
use Rattle.position_core.specs.declared.message.Entry.{Entry}
use Rattle.delivery_machine.specs.State.{State, Member}
use Rattle.delivery_machine.specs.Words.{is_live}
use Rattle.delivery_machine.specs.WellFormed.{has_message}
use Rattle.topic_subscriptions.specs.Placed.{IsPlacedIn, Placed, is_live_at, line_at, sub_in}
use Rattle.topic_parts.specs.declared.parts.Parts.{Parts}

abbrev pub log_of : Parts → List Entry
log_of t = t.log.log.log

abbrev pub state_of : Parts → State
state_of t = record {
  name = t.name;
  ledger_size = t.log.log.ledger_size;
  ledger = t.log.log.ledger;
  next_ordinal = t.next_ordinal;
  next_producer = t.log.next_producer;
  next_consumer = t.members.next;
  gone = t.log.gone;
  authors = t.log.authors;
  retention = t.log.retention;
  log = log_of t;
  durable = t.log.durable;
  producers = t.log.producers;
  members = t.members.members;
  subscriptions = map (sub_in (log_of t)) t.subscriptions.items;
}

-- what a dispatcher's view needs to know of a subscription, the log and the members
pub record IsSeenIn (log : List Entry) (members : List Member) (p : Placed) : Type 0 where
  pub live : (place : ℕ) (e : Entry) → slice_get log place ≡ Some e → is_live (sub_in log p) e ≡ is_live_at p place
  pub line : p.line ≡ line_at p.name members
  pub pending : (position : Position) → map_of.contains_key p.pending.pending position ≡ true → has_message log position ≡ true

-- each subscription speaks of the log and of its members
abbrev pub AreTied : Parts → Type 0
AreTied t = All (IsPlacedIn (log_of t) t.members.members) t.subscriptions.items

-- in the subscription at the place, the message before the one at the index is live
abbrev pub HasLiveBefore : Parts → ℕ → ℕ → Type 0
HasLiveBefore t place index = (p : Placed) → Some p ≡ slice_get t.subscriptions.items place → (k : ℕ) × (k + 1 ≡ index) × (is_live_at p k ≡ true)
