use Rattle.dispatch_single.proofs.Agreeing.{agrees-joined}
use Rattle.dispatch_single.proofs.single.SingleDispatcher.on_join.Goals as goal

pub returns-clause-ok : goal.returns-clause-ok
returns-clause-ok g c =
    rw (← c.self.view_is) (λ s sub change agreed.
    agrees-joined (record { waiting = c.self.inside.waiting; line = c.self.inside.line }) s sub agreed c.args._consumer _ _ change c.join.new.self c.join.ensures)
