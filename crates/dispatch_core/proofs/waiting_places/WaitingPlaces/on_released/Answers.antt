use Rattle.dispatch_core.proofs.Telling.{tells-inserted}
use Rattle.dispatch_core.proofs.waiting_places.WaitingPlaces.on_released.Goals as goal

pub returns-then-index-self : goal.returns-then-index-self
returns-then-index-self g c =
    rw (← c.self.view_is, c.insert.ensures) (λ s sub change tells.
    tells-inserted (record { read = c.self.inside.read; returned = c.self.inside.returned.places }) c.args.index s sub _ _ c.if-index-self.true tells change.stays change.waits)
