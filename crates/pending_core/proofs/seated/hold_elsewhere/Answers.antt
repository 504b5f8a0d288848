use Rattle.std.proofs.Common.{subst, sym}
use Rattle.pending_core.specs.Kept.{pending_in}
use Rattle.pending_core.specs.Pending.{Pending}
use Rattle.pending_core.specs.Seats.{AreSeatsOf}
use Rattle.pending_core.proofs.Seating.{held_elsewhere}
use Rattle.pending_core.proofs.seated.hold_elsewhere.Goals as goal

pub returns-in-Ok-clause-seated : goal.returns-in-Ok-clause-seated
returns-in-Ok-clause-seated c =
    let before = pending_in c.args.table.now.entries in
    subst (λ (s : Pending). AreSeatsOf c.leave.new.seats s.pending) (sym c.in-Ok.ensures.ok)
    (held_elsewhere c.args.seats.now before.pending c.args.position c.requires.seated c.take.new.self c.leave.new.seats c.args.held c.args.before c.requires.before c.requires.elsewhere c.in_ok-take.ensures.ok c.leave.ensures.some c.leave.ensures.none)
