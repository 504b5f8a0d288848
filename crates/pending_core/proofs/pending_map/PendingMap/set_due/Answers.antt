use Rattle.std.proofs.Common.{subst, sym}
use Rattle.pending_core.specs.Kept.{pending_in, MayCount}
use Rattle.pending_core.specs.Pending.{Pending}
use Rattle.pending_core.specs.Seats.{AreSeatsOf}
use Rattle.pending_core.proofs.Empty.{none_due_again}
use Rattle.pending_core.proofs.Seating.{seated_due_again}
use Rattle.pending_core.proofs.pending_map.PendingMap.set_due.Goals as goal

pub invariant_of-self : goal.invariant_of-self
invariant_of-self c =
    let seats = c.self.inside.seats in
    (c.set_due.ensures.tied, subst (λ (s : Pending). AreSeatsOf seats s.pending) (sym c.set_due.ensures.seen) (seated_due_again seats (pending_in c.self.inside.kept.entries) c.args.position c.args.due c.self.invariant.1), subst (MayCount _) (sym c.set_due.ensures.seen) (none_due_again _ (pending_in c.self.inside.kept.entries) c.args.position c.args.due c.self.invariant.2))
