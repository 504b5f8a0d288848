use Rattle.std.proofs.Common.{subst, sym}
use Rattle.pending_core.specs.Kept.{pending_in}
use Rattle.pending_core.specs.Pending.{Pending}
use Rattle.pending_core.specs.Seats.{AreSeatsOf}
use Rattle.pending_core.proofs.Seating.{left_after}
use Rattle.pending_core.proofs.seated.remove.Goals as goal

pub returns-clause-seated : goal.returns-clause-seated
returns-clause-seated c =
    let before = pending_in c.args.table.now.entries in
    subst (λ (s : Pending). AreSeatsOf c.leave.new.seats s.pending) (sym c.remove.ensures.seen)
    (left_after c.args.seats.now before.pending c.args.position c.requires.seated c.leave.new.seats c.seat_in-before.result c.seat_in-before.ensures c.leave.ensures.some c.leave.ensures.none)
