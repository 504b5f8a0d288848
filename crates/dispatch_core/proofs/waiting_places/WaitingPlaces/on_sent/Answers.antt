use Rattle.dispatch_core.proofs.Telling.{tells-removed}
use Rattle.dispatch_core.proofs.waiting_places.WaitingPlaces.on_sent.Goals as goal

pub returns-then-index-self-clause-ok : goal.returns-then-index-self-clause-ok
returns-then-index-self-clause-ok g c =
    rw (← c.self.view_is, c.remove.ensures) (λ consumer s sub change tells.
    tells-removed (record { read = c.self.inside.read; returned = c.self.inside.returned.places }) c.args.index s sub _ _ tells change.stays change.waits)
