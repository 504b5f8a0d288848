-- What stands at an index of a topic's log for one of its subscriptions, and the line of its members.
use Rattle.std.specs.Prelude.{◌≡◌, ℕ, ◌<◌, ◌≤◌, Bool, true, false, List, map, Option, length, slice_get}
use Rattle.std.specs.Option.{option_map, option_map_or, option_and_then}
use Rattle.std.specs.FinMap as map_of
use Rattle.position_core.specs.declared.message.Entry.{Entry}
use Rattle.delivery_machine.specs.State.{State, Subscription}
use Rattle.delivery_machine.specs.Words.{is_waiting, members_of, visible}

-- the message at the index is live and pending at nobody, visible or not; past the end none is
unfoldable pub waits_at : State → Subscription → ℕ → Bool
waits_at s sub i = option_map_or (is_waiting sub) (slice_get s.log i) false

abbrev pub holder_of : Subscription → Entry → Option ℕ
holder_of sub e = option_map (λ h. h.consumer) (map_of.get sub.pending e.position)

-- the consumer at which the message at the index is pending
unfoldable pub holder_at : State → Subscription → ℕ → Option ℕ
holder_at s sub i = option_and_then (holder_of sub) (slice_get s.log i)

-- the key of the message at the index
unfoldable pub key_at : State → ℕ → Option (List ℕ)
key_at s i = option_and_then (λ e. e.body.key) (slice_get s.log i)

-- the numbers and levels of the subscription's members, in the order of joining
unfoldable pub line_of : State → Subscription → List (ℕ × ℕ)
line_of s sub = map (λ m. (m.number, m.level)) (members_of s sub.name)

-- the message at the index waits, and may be seen
pub record IsReadyAt (s : State) (sub : Subscription) (i : ℕ) : Type 0 where
  pub seen : i < length (visible s)
  pub waits : waits_at s sub i ≡ true

-- from the first index on, the message at the second is the next that waits
pub record IsNextReady (s : State) (sub : Subscription) (from i : ℕ) : Type 0 where
  pub after : from ≤ i
  pub ready : IsReadyAt s sub i
  pub least : (k : ℕ) → from ≤ k → IsReadyAt s sub k → i ≤ k

abbrev pub NoneReady : State → Subscription → ℕ → Type 0
NoneReady s sub from = (k : ℕ) → from ≤ k → IsReadyAt s sub k → ⊥
