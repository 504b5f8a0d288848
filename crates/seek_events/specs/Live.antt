-- The first live message of a subscription.
use Rattle.std.specs.Prelude.{◌≡◌, ℕ, List, [], ◌∷◌, Some, slice_get, IsSomeAnd}
use Rattle.std.specs.List.{find}
use Rattle.position_core.specs.declared.message.Entry.{Entry}
use Rattle.delivery_machine.specs.State.{State}
use Rattle.delivery_machine.specs.Words.{is_named}
use Rattle.delivery_machine.specs.Acknowledging.{with_acknowledged}
use Rattle.delivery_machine.specs.Seeking.{first_live}
use Rattle.topic_subscriptions.specs.Placed.{IsNextLive, Placed}
use Rattle.topic_served.specs.declared.served.Served.{Served}

-- in the subscription at the place, the message at the index is the first live one, or no message is live before it
abbrev pub IsFirstLive : Served → ℕ → ℕ → Type 0
IsFirstLive served place index = (p : Placed) → Some p ≡ slice_get served.parts.subscriptions.items place → IsNextLive p 0 index

-- the message at the index is acknowledged
abbrev pub SkipsAt : List Entry → ℕ → List ℕ → State → State → Type 0
SkipsAt log index name s t = (e : Entry) × (slice_get log index ≡ Some e) × (t ≡ with_acknowledged s name (e.position ∷ []))

-- the first live messages are acknowledged, so many
abbrev pub SkipsFirst : ℕ → List ℕ → State → State → Type 0
SkipsFirst count name s t = IsSomeAnd (find (is_named name) s.subscriptions) (λ sub. t ≡ with_acknowledged s name (first_live s sub count))
