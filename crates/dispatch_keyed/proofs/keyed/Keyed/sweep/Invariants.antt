use Rattle.delivery_machine.specs.State.{State, Subscription}
use Rattle.dispatch_keyed.specs.Agreeing.{Agrees}
use Rattle.dispatch_keyed.proofs.keyed.Keyed.sweep.Given as goal

abbrev pub invariant-loop-row : goal.invariant-loop-row
invariant-loop-row l = (s : State) (sub : Subscription) → Agrees l.initial.self s sub → Agrees l.self s sub
