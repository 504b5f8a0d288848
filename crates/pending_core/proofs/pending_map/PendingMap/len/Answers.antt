use Rattle.std.proofs.Common.{◌∙◌}
use Rattle.pending_core.specs.Kept.{pending_in}
use Rattle.pending_core.proofs.Matching.{as_many}
use Rattle.pending_core.proofs.pending_map.PendingMap.len.Goals as goal

pub returns : goal.returns
returns c = rw (← c.self.view_is) (c.len.ensures.len ∙ as_many c.self.inside.seats (pending_in c.self.inside.kept.entries) c.self.invariant.1 c.len.ensures.ordered)
