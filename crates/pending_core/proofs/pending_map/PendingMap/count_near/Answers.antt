use Rattle.std.proofs.Common.{◌∙◌}
use Rattle.pending_core.specs.Kept.{pending_in}
use Rattle.pending_core.proofs.Matching.{as_many_at}
use Rattle.pending_core.proofs.pending_map.PendingMap.count_near.Goals as goal

pub returns : goal.returns
returns c = rw (← c.self.view_is) (c.count_near.ensures.number ∙ as_many_at c.self.inside.seats (pending_in c.self.inside.kept.entries) c.self.invariant.1 c.count_near.ensures.ordered c.args.consumer)
