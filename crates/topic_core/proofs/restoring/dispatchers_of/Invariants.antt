use Rattle.std.proofs.Common.{◌≡◌, ℕ, Some, length}
use Rattle.std.specs.Prelude.{slice_get}
use Rattle.delivery_machine.specs.State.{Subscription}
use Rattle.topic_served.specs.Agreeing.{agrees}
use Rattle.topic_served.specs.declared.dispatch.Dispatch.{Dispatch}
use Rattle.topic_parts.specs.Parts.{state_of}
use Rattle.topic_core.proofs.restoring.dispatchers_of.Given as goal

abbrev pub invariant-loop-place : goal.invariant-loop-place
invariant-loop-place l = record {
  many : length l.dispatchers.items ≡ l.place;
  each : (i : ℕ) (d : Dispatch) (sub : Subscription) → slice_get l.dispatchers.items i ≡ Some d → slice_get (state_of l.parts).subscriptions i ≡ Some sub → agrees d (state_of l.parts) sub;
}
