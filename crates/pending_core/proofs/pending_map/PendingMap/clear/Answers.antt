use Rattle.pending_core.proofs.Empty.{tied_empty, seated_empty, none_counted}
use Rattle.pending_core.proofs.pending_map.PendingMap.clear.Goals as goal

pub invariant_of-self : goal.invariant_of-self
invariant_of-self c = (tied_empty _ _ c.clear.ensures.empty c.clear-2.ensures, seated_empty _ _ c.clear-3.ensures c.clear.ensures.empty, none_counted _ _ c.clear.ensures.empty)
