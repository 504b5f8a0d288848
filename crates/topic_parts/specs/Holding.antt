-- What a change of one subscription is for a topic's parts.
use Rattle.std.specs.Prelude.{◌≡◌, ℕ, ◌+◌, List, [], ◌∷◌, map, Some, slice_get, length}
use Rattle.std.specs.List.{position}
use Rattle.std.specs.FinMap as map_of
use Rattle.position_core.specs.declared.position.Position.{Position}
use Rattle.delivery_machine.specs.State.{State, Subscription, DeadLetter}
use Rattle.delivery_machine.specs.Words.{changed, is_named}
use Rattle.delivery_machine.specs.Acknowledging.{forgetting}
use Rattle.delivery_machine.specs.Dying.{burying}
use Rattle.topic_subscriptions.specs.Placed.{Placed, is_placed}
use Rattle.topic_parts.specs.Parts.{state_of}
use Rattle.topic_parts.specs.declared.parts.Parts.{Parts}

-- the subscription at the place is such
abbrev pub IsAt : Parts → ℕ → (Placed → Type 0) → Type 0
IsAt t place P = (p : Placed) → slice_get t.subscriptions.items place ≡ Some p → P p

-- the subscription at the place is changed as the first word says, which is the second one for the machine, and nothing else is
pub record ChangesAt (place : ℕ) (f : Placed → Placed) (g : Subscription → Subscription) (old new : Parts) : Type 0 where
  pub subscription : (p : Placed) → slice_get old.subscriptions.items place ≡ Some p → slice_get new.subscriptions.items place ≡ Some (f p)
  pub state : (name : List ℕ) → Some place ≡ position (is_placed name) old.subscriptions.items
      → state_of new ≡ record (state_of old) { subscriptions = changed (is_named name) g (state_of old).subscriptions }
  pub rest : new ≡ record old { subscriptions = new.subscriptions }
  pub many : length new.subscriptions.items ≡ length old.subscriptions.items

-- the message waits again, and no count rises
abbrev pub freeing : Position → Subscription → Subscription
freeing position sub = record sub { pending = map_of.remove sub.pending position }

-- the message is dead, with the letter as the last one, and the next ordinal is another
abbrev pub buried : State → List ℕ → DeadLetter → State
buried s name letter = record s {
  subscriptions = changed (is_named name) (burying letter) s.subscriptions;
  members = map (forgetting name (letter.position ∷ [])) s.members;
  next_ordinal = s.next_ordinal + 1;
}
