use Rattle.std.proofs.Common.{true, false, refl}
use Rattle.dispatch_keyed.proofs.Standing.{stands_with, stands_without}
use Rattle.dispatch_keyed.proofs.rows.stand_in.Goals as goal

pub returns-in-Some : goal.returns-in-Some
returns-in-Some c =
    rw c.in-Some.is
    (stands_with c.args.base c.args.index _ c.args.waits true c.take_keeper.new.self c.mark.new.self refl c.mark.ensures.places c.mark.ensures.waits c.mark.ensures.holds c.mark.ensures.keeper c.in-Some.consumer c.args.row.now refl c.take_keeper.ensures.same c.take_keeper.ensures.keeper)

pub returns-in-None : goal.returns-in-None
returns-in-None c =
    rw c.in-None.is
    (stands_without c.args.base c.args.index _ c.args.waits false c.args.row.now c.mark-in-None.new.self refl c.mark-in-None.ensures.places c.mark-in-None.ensures.waits c.mark-in-None.ensures.holds c.mark-in-None.ensures.keeper refl)
