use Rattle.dispatch_core.proofs.Telling.{tells-removed}
use Rattle.dispatch_core.proofs.waiting_places.WaitingPlaces.on_gone.Goals as goal

pub returns : goal.returns
returns g c =
    rw (← c.self.view_is, c.remove.ensures) (λ s sub change tells.
    tells-removed (record { read = c.self.inside.read; returned = c.self.inside.returned.places }) c.args.index s sub _ _ tells change.stays change.waits)
