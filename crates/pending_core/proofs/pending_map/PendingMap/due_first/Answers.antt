use Rattle.pending_core.proofs.First.{first_of_pending}
use Rattle.pending_core.proofs.pending_map.PendingMap.due_first.Goals as goal

pub returns : goal.returns
returns c = rw (← c.self.view_is) (first_of_pending c.self.inside.kept.entries c.self.inside.slots c.self.invariant.0 c.first.result c.first.ensures)
