-- The first messages go, for each subscription's dispatcher.
use Rattle.std.specs.Prelude.{◌≡◌, ℕ, Some, length, slice_get}
use Rattle.delivery_machine.specs.State.{State, Subscription}
use Rattle.dispatch_core.specs.Changes.{Trimmed}

-- for each subscription the first messages went, so many
pub record AreTrimmed (count : ℕ) (s t : State) : Type 0 where
  pub many : length t.subscriptions ≡ length s.subscriptions
  pub each : (k : ℕ) (sub new : Subscription) → slice_get s.subscriptions k ≡ Some sub → slice_get t.subscriptions k ≡ Some new → Trimmed count s sub t new
