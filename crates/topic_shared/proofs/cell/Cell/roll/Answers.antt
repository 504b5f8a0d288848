use Rattle.std.proofs.Common.{rules}
use Rattle.topic_shared.proofs.Cells.{kept_rolled}
use Rattle.topic_shared.proofs.cell.Cell.roll.Goals as goal

pub invariant_of-self : goal.invariant_of-self
invariant_of-self g c = kept_rolled _ _ _ _ _ _ _ c.self.invariant (search rules) c.clear.ensures.items c.clear.ensures.capacity
