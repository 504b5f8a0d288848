-- Subscriptions by their places: what is pending there, and which changes keep them.
use Rattle.std.specs.Prelude.{◌≡◌, ℕ, true, false, List, Some, map, slice_get, IsSomeAnd}
use Rattle.std.specs.List.{find, position}
use Rattle.std.specs.Option.{option_map_or}
use Rattle.std.specs.FinMap as map_of
use Rattle.position_core.specs.declared.position.Position.{Position}
use Rattle.delivery_machine.specs.State.{State}
use Rattle.delivery_machine.specs.Words.{is_held_by, is_member}
use Rattle.delivery_machine.specs.WellFormed.{NamesRise}
use Rattle.topic_subscriptions.specs.Placed.{Placed, is_placed}
use Rattle.topic_parts.specs.declared.parts.Parts.{Parts}
use Rattle.topic_served.specs.declared.served.Served.{Served}
use Rattle.topic_served.specs.Served.{IsBound, state_in}

abbrev pub names_of : List Placed → List (List ℕ)
names_of subs = map (λ p. p.name) subs

-- the first subscription of a name stands at the place
pub record StandsAt (t : Parts) (place : ℕ) : Type 0 where
  pub name : List ℕ
  pub named : Some place ≡ position (is_placed name) t.subscriptions.items

-- the message is pending in the subscription at the place
pub record IsPendingIn (t : Parts) (place : ℕ) (message : Position) : Type 0 where
  pub sub : Placed
  pub there : Some sub ≡ slice_get t.subscriptions.items place
  pub pending : map_of.contains_key sub.pending.pending message ≡ true

-- how many messages are pending in the subscription at the place
abbrev pub number_pending : Parts → ℕ → ℕ
number_pending t place = option_map_or (λ p. map_of.len p.pending.pending) (slice_get t.subscriptions.items place) 0

-- nothing is pending at the consumer in the subscription at the place
abbrev pub IsIdleAt : Parts → ℕ → ℕ → Type 0
IsIdleAt t place consumer = (p : Placed) → Some p ≡ slice_get t.subscriptions.items place → (message : Position) → is_held_by consumer (map_of.get p.pending.pending message) ≡ false

-- the consumer is a member of the subscription at the place
abbrev pub IsMemberAt : Parts → ℕ → ℕ → Type 0
IsMemberAt t place consumer = IsSomeAnd (find (is_member consumer) t.members.members) (λ m. Some place ≡ position (is_placed m.subscription) t.subscriptions.items)

-- names stand in their order, and none twice
abbrev pub AreOrdered : Parts → Type 0
AreOrdered t = NamesRise (names_of t.subscriptions.items)

-- nothing but the subscriptions changes, and each keeps its name
pub record KeepNames (old new : Parts) : Type 0 where
  pub rest : new ≡ record old { subscriptions = new.subscriptions }
  pub names : names_of new.subscriptions.items ≡ names_of old.subscriptions.items

-- the change of the subscription at the place comes to the same before and after
pub record ComesToTheSame (change : List ℕ → State → State) (place : ℕ) (old new : Served) : Type 0 where
  pub same : (name : List ℕ) → Some place ≡ position (is_placed name) old.parts.subscriptions.items → change name (state_in new) ≡ change name (state_in old)
  pub kept : KeepNames old.parts new.parts
  pub bound : IsBound new
