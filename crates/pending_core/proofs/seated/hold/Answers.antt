use Rattle.std.proofs.Common.{Result, Ok, Err, OnOk, OnErr, subst, sym}
use Rattle.pending_core.specs.Kept.{pending_in}
use Rattle.pending_core.specs.Pending.{Pending}
use Rattle.pending_core.specs.Seats.{AreSeatsOf}
use Rattle.pending_core.proofs.Seating.{held_again, held_by_seat}
use Rattle.pending_core.proofs.seated.hold.Goals as goal

either : {T E : Type 0} (r : Result T E) (P Q G : Type 0) → OnOk r P → OnErr r Q → (P → G) → (Q → G) → G
either (Ok x) P Q G p q f g = f p
either (Err e) P Q G p q f g = g q

pub returns-then-before-held-clause-seated : goal.returns-then-before-held-clause-seated
returns-then-before-held-clause-seated c =
    let seats = c.args.seats.now in
    let m = (pending_in c.args.table.now.entries).pending in
    let holds = held_by_seat m c.args.position c.in-Some.before c.args.held.consumer c.in-Some.ensures c.if-before-held.true in
    either c.hold.result _ _ (AreSeatsOf seats (pending_in c.hold.new.table.entries).pending) c.hold.ensures.ok c.hold.ensures.err
    (λ now. subst (λ (s : Pending). AreSeatsOf seats s.pending) (sym now) (held_again seats m c.args.position c.requires.seated c.args.held holds))
    (λ now. subst (λ (s : Pending). AreSeatsOf seats s.pending) (sym now) c.requires.seated)
