use Rattle.std.proofs.Common.{ap, sym}
use Rattle.std.specs.Option.{is_some}
use Rattle.dispatch_keyed.proofs.Standing.{shed_alike}
use Rattle.dispatch_keyed.proofs.sweeping.shed.Goals as goal

pub returns-in-Some-clause-here : goal.returns-in-Some-clause-here
returns-in-Some-clause-here c =
    let was = sym c.in-Some.ensures.value in
    let now = ((c.get_mut.follows.holds c.shed.new.self).3 (ap is_some was)).1 in
    rw (was, now) (shed_alike c.args.rows.now.base c.in-Some.row.now c.shed.new.self c.shed.ensures)
