use Rattle.std.proofs.Common.{sym}
use Rattle.dispatch_keyed.proofs.Standing.{new_row, is_none}
use Rattle.dispatch_keyed.proofs.rows.make.Goals as goal

pub returns-in-Ok-clause-here : goal.returns-in-Ok-clause-here
returns-in-Ok-clause-here c =
    rw (is_none _ (sym c.if-contains_key.ensures), c.in-Ok.ensures.updates.1)
    (new_row c.args.rows.now.base c.new.result c.new.ensures.places c.new.ensures.waits c.new.ensures.holds c.new.ensures.keeper)
