-- Changes of a topic, by what its dispatchers need to be told.
use Rattle.std.specs.Prelude.{◌≡◌, ◌≢◌, ℕ, suc, ◌+◌, ◌≤◌, ◌<◌, Some, length, slice_get}
use Rattle.delivery_machine.specs.State.{State, Subscription}
use Rattle.dispatch_core.specs.Changes.{Kept}

-- nobody need be told
pub record AllKept (s t : State) : Type 0 where
  pub many : length t.subscriptions ≡ length s.subscriptions
  pub each : (k : ℕ) (sub new : Subscription) → slice_get s.subscriptions k ≡ Some sub → slice_get t.subscriptions k ≡ Some new → Kept s sub t new

-- nobody need be told but the one at the place
pub record OthersKept (i : ℕ) (s t : State) : Type 0 where
  pub many : length t.subscriptions ≡ length s.subscriptions
  pub each : (k : ℕ) (sub new : Subscription) → k ≢ i → slice_get s.subscriptions k ≡ Some sub → slice_get t.subscriptions k ≡ Some new → Kept s sub t new

-- the change is the one of the subscription at the place
pub record HappensAt (i : ℕ) (Changes : State → Subscription → State → Subscription → Type 0) (s : State) (sub : Subscription) (t : State) (new : Subscription) : Type 0 where
  pub was : slice_get s.subscriptions i ≡ Some sub
  pub is : slice_get t.subscriptions i ≡ Some new
  pub change : Changes s sub t new
  pub others : OthersKept i s t

-- a subscription came in at the place, and nobody else need be told
pub record ComesAt (i : ℕ) (s t : State) (new : Subscription) : Type 0 where
  pub within : i ≤ length s.subscriptions
  pub many : length t.subscriptions ≡ length s.subscriptions + 1
  pub is : slice_get t.subscriptions i ≡ Some new
  pub before : (k : ℕ) (sub other : Subscription) → k < i → slice_get s.subscriptions k ≡ Some sub → slice_get t.subscriptions k ≡ Some other → Kept s sub t other
  pub after : (k : ℕ) (sub other : Subscription) → i ≤ k → slice_get s.subscriptions k ≡ Some sub → slice_get t.subscriptions (suc k) ≡ Some other → Kept s sub t other

-- the subscription at the place went, and nobody else need be told
pub record GoesAt (i : ℕ) (s t : State) : Type 0 where
  pub within : i < length s.subscriptions
  pub many : length t.subscriptions + 1 ≡ length s.subscriptions
  pub before : (k : ℕ) (sub other : Subscription) → k < i → slice_get s.subscriptions k ≡ Some sub → slice_get t.subscriptions k ≡ Some other → Kept s sub t other
  pub after : (k : ℕ) (sub other : Subscription) → i ≤ k → slice_get s.subscriptions (suc k) ≡ Some sub → slice_get t.subscriptions k ≡ Some other → Kept s sub t other
