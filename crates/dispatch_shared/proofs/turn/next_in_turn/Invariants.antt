use Rattle.std.proofs.Common.{◌≡◌, map}
use Rattle.dispatch_core.specs.Log.{line_of}
use Rattle.dispatch_shared.specs.Turn.{roomy_among, IsFirst}
use Rattle.dispatch_shared.specs.Seats.{seat_pair}
use Rattle.dispatch_shared.proofs.turn.next_in_turn.Given as goal

abbrev pub invariant-loop-place : goal.invariant-loop-place
invariant-loop-place g l =
    map seat_pair l.seats ≡ line_of (g.V.View.state l.view) (g.V.View.subscription l.view)
    → IsFirst l.last (roomy_among l.place (g.V.View.state l.view) (g.V.View.subscription l.view)) l.best
