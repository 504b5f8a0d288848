use Rattle.std.proofs.Common.{Some, None}
use Rattle.pending_core.specs.Kept.{pending_in}
use Rattle.pending_core.proofs.FirstSeats.{first_is}
use Rattle.pending_core.proofs.pending_map.PendingMap.first.Goals as goal

pub returns-in-Some : goal.returns-in-Some
returns-in-Some c = rw (← c.self.view_is) (first_is c.self.inside.seats (pending_in c.self.inside.kept.entries) c.self.invariant.1 (Some c.in-Some.seat) c.in-Some.ensures)

pub returns-in-None : goal.returns-in-None
returns-in-None c = rw (← c.self.view_is) (first_is c.self.inside.seats (pending_in c.self.inside.kept.entries) c.self.invariant.1 None c.in-None.ensures)
