use Rattle.std.proofs.Common.{sym}
use Rattle.dispatch_keyed.proofs.Standing.{none_placed}
use Rattle.dispatch_keyed.proofs.sweeping.is_done.Goals as goal

pub returns-in-Some : goal.returns-in-Some
returns-in-Some c is =
    rw (sym c.in-Some.ensures.value) (none_placed c.args.rows.now.base c.in-Some.row.now (c.is_done.ensures is))
