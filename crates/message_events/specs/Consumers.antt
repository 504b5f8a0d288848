-- Who takes a subscription's messages, and the first message that is not acknowledged.
use Rattle.std.specs.Prelude.{◌≡◌, ℕ, List, [], ◌∷◌, Some, slice_get, IsSomeAnd}
use Rattle.std.specs.List.{find}
use Rattle.position_core.specs.declared.message.Entry.{Entry}
use Rattle.ack_ranges.specs.Ranges.{IsNextMissing}
use Rattle.delivery_machine.specs.State.{State}
use Rattle.delivery_machine.specs.Words.{is_member}
use Rattle.delivery_machine.specs.Acknowledging.{with_acknowledged}
use Rattle.topic_subscriptions.specs.Placed.{Placed}
use Rattle.topic_served.specs.declared.served.Served.{Served}

-- the consumer is there, at the subscription of the name
abbrev pub IsConsumerOf : State → ℕ → List ℕ → Type 0
IsConsumerOf s consumer name = IsSomeAnd (find (is_member consumer) s.members) (λ m. m.subscription ≡ name)

-- in the subscription at the place, the message at the index is the first one that is not acknowledged
abbrev pub IsFirstMissing : Served → ℕ → ℕ → Type 0
IsFirstMissing served place index = (p : Placed) → Some p ≡ slice_get served.parts.subscriptions.items place → IsNextMissing p.places 0 index

-- the message at the index is acknowledged
abbrev pub AcknowledgesAt : List Entry → ℕ → List ℕ → State → State → Type 0
AcknowledgesAt log index name s t = (e : Entry) × (slice_get log index ≡ Some e) × (t ≡ with_acknowledged s name (e.position ∷ []))
