-- When a topic's dispatchers agree with it. They stand in a list, each at its subscription's place.
use Rattle.std.specs.Prelude.{◌≡◌, ℕ, List, Some, length, slice_get, slice_set}
use Rattle.std.specs.List.{insert}
use Rattle.delivery_machine.specs.State.{State, Subscription}
use Rattle.dispatch_core.specs.Changes.{AgreesAfter}
use Rattle.topic_served.specs.declared.dispatch.Dispatch.{Dispatch}
use Rattle.topic_served.specs.Agreeing.{agrees}

-- each agrees with the topic and the subscription at its place
pub record AreTold (ds : List Dispatch) (s : State) : Type 0 where
  pub many : length ds ≡ length s.subscriptions
  pub each : (i : ℕ) (d : Dispatch) (sub : Subscription) → slice_get ds i ≡ Some d → slice_get s.subscriptions i ≡ Some sub → agrees d s sub

-- the dispatcher at the place was told of the change, and no other
pub record IsToldAt (place : ℕ) (Changes : State → Subscription → State → Subscription → Type 0) (before after : List Dispatch) (t : State) (new : Subscription) : Type 0 where
  pub old : Dispatch
  pub told : Dispatch
  pub was : slice_get before place ≡ Some old
  pub is : after ≡ slice_set before place told
  pub agreeing : AgreesAfter Changes (agrees old) (agrees told) t new

-- one that agrees with the subscription at the place was put in there
pub record IsBegunAt (place : ℕ) (before after : List Dispatch) (t : State) (new : Subscription) : Type 0 where
  pub begun : Dispatch
  pub is : after ≡ insert before place begun
  pub agreeing : agrees begun t new
