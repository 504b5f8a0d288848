use Rattle.std.proofs.Common.{◌≡◌}
use Rattle.dispatch_keyed.specs.Agreeing.{Agrees}
use Rattle.dispatch_keyed.proofs.keyed.Keyed.go_back.Given as goal

abbrev pub invariant-loop-self : goal.invariant-loop-self
invariant-loop-self g l =
    (Agrees l.initial.self (g.V.View.state l.view) (g.V.View.subscription l.view) → Agrees l.self (g.V.View.state l.view) (g.V.View.subscription l.view))
    × (l.self.read ≡ l.initial.self.read)

abbrev pub decreases-loop-self : goal.decreases-loop-self
decreases-loop-self g l = l.self.sent
