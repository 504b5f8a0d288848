use Rattle.std.specs.FinSet as set
use Rattle.dispatch_core.proofs.Telling.{tells-new}
use Rattle.dispatch_single.proofs.Agreeing.{agrees-with}
use Rattle.dispatch_single.proofs.single.SingleDispatcher.on_reset.Goals as goal

pub returns-clause-ok : goal.returns-clause-ok
returns-clause-ok g c =
    rw (← c.self.view_is, c.reset.ensures) (λ s sub change agreed.
    agrees-with (record { waiting = c.self.inside.waiting; line = c.self.inside.line }) s sub agreed _ _ (record { read = 0; returned = set.empty }) change.log.kind change.line (tells-new _ _))
