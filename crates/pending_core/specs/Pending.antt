-- What is pending in a subscription, and how often it was redelivered.
use Rattle.std.specs.Prelude.{◌≡◌, ℕ, ◌+◌, ◌<◌, ◌==◌, min, true, [], ◌∷◌, Option, Some, None, if◌then◌else◌, IsTrue}
use Rattle.std.specs.List.{count_by}
use Rattle.std.specs.Option.{option_map_or, option_and_then, unwrap_or}
use Rattle.std.specs.FinMap as map_of
use Rattle.std.specs.BTreeMap.Range.{IsLeBy}
use Rattle.position_core.specs.Numbers.{ConsumerNumber}
use Rattle.position_core.specs.Position.{position_cmp}
use Rattle.position_core.specs.declared.position.Position.{Position}
use Rattle.position_core.specs.declared.held.Held.{Held}
use Rattle.delivery_machine.specs.State.{Subscription}
use Rattle.delivery_machine.specs.Words.{is_held_by}
use Rattle.delivery_machine.specs.Ticking.{redelivering}
pub use Rattle.delivery_machine.specs.Ticking.{most_count}
use Rattle.pending_core.specs.declared.due.Due.{Due}
use Rattle.pending_core.specs.Due.{due_cmp}

-- the pending messages, and the counts of those that were redelivered
pub record Pending : Type 0 where
  pub pending : map_of.FinMap position_cmp Held
  pub counts : map_of.FinMap position_cmp ℕ

abbrev pub nothing_pending : Pending
nothing_pending = record { pending = map_of.empty; counts = map_of.empty }

abbrev pub count_at : Pending → Position → ℕ
count_at s position = unwrap_or (map_of.get s.counts position) 0

-- these were redelivered, and nothing is pending
abbrev pub counted_before : map_of.FinMap position_cmp ℕ → Pending
counted_before counts = record { pending = map_of.empty; counts = counts }

-- redelivered so often
abbrev pub counted : Position → ℕ → Pending → Pending
counted position times s = record s { counts = map_of.insert s.counts position times }

-- pending at a consumer, with the count that it had
abbrev pub holding : Position → Held → Pending → Pending
holding position held s = record s { pending = map_of.insert s.pending position held }

-- neither pending nor counted
abbrev pub without : Position → Pending → Pending
without position s = record { pending = map_of.remove s.pending position; counts = map_of.remove s.counts position }

-- no longer pending
abbrev pub released : Position → Pending → Pending
released position s = record s { pending = map_of.remove s.pending position }

-- where it is pending, it is due at this moment
abbrev pub due_again : Position → ℕ → Pending → Pending
due_again position due s = option_map_or (λ held. holding position (record held { due = Some due }) s) (map_of.get s.pending position) s

-- where it is pending, it was redelivered once more
abbrev pub redelivered : Position → Pending → Pending
redelivered position s = if map_of.contains_key s.pending position then record s { counts = map_of.insert s.counts position (min (count_at s position + 1) most_count) } else s

-- a pending message that has a due moment
abbrev pub IsDue : Pending → Due → Type 0
IsDue s due = option_and_then (λ held. held.due) (map_of.get s.pending due.position) ≡ Some due.moment

-- one that has a due moment, and no other's is before it; or none has one
abbrev pub IsFirstDue : Pending → Option Due → Type 0
IsFirstDue s None = (due : Due) → IsDue s due → ⊥
IsFirstDue s (Some first) = IsDue s first × ((other : Due) → IsDue s other → IsLeBy due_cmp first other)

-- the message is pending at the consumer
abbrev pub IsPendingAt : Pending → ConsumerNumber → Position → Type 0
IsPendingAt s consumer position = IsTrue (is_held_by consumer (map_of.get s.pending position))

-- the least position that is pending at the consumer; or none is
abbrev pub IsFirstAt : Pending → ConsumerNumber → Option Position → Type 0
IsFirstAt s consumer None = (position : Position) → IsPendingAt s consumer position → ⊥
IsFirstAt s consumer (Some first) = IsPendingAt s consumer first × ((other : Position) → IsPendingAt s consumer other → IsLeBy position_cmp first other)

-- the first at the least consumer at which one is pending; or none is pending
abbrev pub IsFirstPending : Pending → Option Position → Type 0
IsFirstPending s None = (position : Position) → map_of.get s.pending position ≡ None
IsFirstPending s (Some first) = (consumer : ConsumerNumber) × IsFirstAt s consumer (Some first) × ((lesser : ConsumerNumber) → lesser < consumer → IsFirstAt s lesser None)

-- how many messages are pending at the consumer
abbrev pub pending_count_at : Pending → ConsumerNumber → ℕ
pending_count_at s consumer = count_by (λ held. held.consumer == consumer) (map_of.values s.pending)

-- what is pending and counted is the subscription's
abbrev pub IsPendingOf : Pending → Subscription → Type 0
IsPendingOf s sub = (sub.pending ≡ s.pending) × (sub.counts ≡ s.counts)

-- counted once more and released, a pending message is as a tick that releases it leaves it
abbrev pub CountedAndReleased : Type 0
CountedAndReleased =
    (s : Pending) (sub : Subscription) (position : Position) → map_of.contains_key s.pending position ≡ true
    → IsPendingOf s sub → IsPendingOf (released position (redelivered position s)) (redelivering (position ∷ []) sub)
