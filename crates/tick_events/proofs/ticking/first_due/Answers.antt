use Rattle.std.proofs.Common.{arith}
use Rattle.std.proofs.lemmas.Bool.{lt-leb}
use Rattle.tick_events.proofs.Due.{later_than_first, never_due, none_is_due}
use Rattle.tick_events.proofs.ticking.first_due.Goals as goal

pub returns-in_default-clause-none : goal.returns-in_default-clause-none
returns-in_default-clause-none c = none_is_due c.args.subscription.now.pending c.args.now (never_due c.args.subscription.now.pending c.args.now c.in_default.ensures)

pub returns-else-due-millis-clause-none : goal.returns-else-due-millis-clause-none
returns-else-due-millis-clause-none c =
    let s = c.args.subscription.now.pending in
    none_is_due s c.args.now (later_than_first s c.args.now c.in-Some.due c.in-Some.ensures.1 (lt-leb c.in-Some.due.moment c.args.now (omega (arith, c.if-due-millis.false, c.millis.ensures.value))))
