use Rattle.std.proofs.Common.{◌-◌, ◌≤◌, length}
use Rattle.dispatch_core.specs.Log.{line_of}
use Rattle.dispatch_single.specs.InOrder.{IsActiveIn}
use Rattle.dispatch_single.proofs.active.active_member.Given as goal

abbrev pub invariant-loop-next : goal.invariant-loop-next
invariant-loop-next g l =
    let line = line_of (g.V.View.state l.view) (g.V.View.subscription l.view) in
    record { within : l.place ≤ length line; best : IsActiveIn line l.place l.best }

abbrev pub decreases-loop-next : goal.decreases-loop-next
decreases-loop-next g l = length (line_of (g.V.View.state l.view) (g.V.View.subscription l.view)) - l.place
