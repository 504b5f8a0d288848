use Rattle.pending_core.specs.Kept.{pending_in}
use Rattle.pending_core.proofs.FirstSeats.{first_at_is}
use Rattle.pending_core.proofs.pending_map.PendingMap.first_at.Goals as goal

pub returns : goal.returns
returns c = rw (← c.self.view_is) (first_at_is c.self.inside.seats (pending_in c.self.inside.kept.entries) c.self.invariant.1 c.args.consumer c.first_at.result c.first_at.ensures)
