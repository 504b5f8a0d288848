use Rattle.pending_core.proofs.Empty.{tied_empty, seated_empty, none_counted}
use Rattle.pending_core.proofs.pending_map.PendingMap.new.Goals as goal

pub invariant_of-result : goal.invariant_of-result
invariant_of-result c = (tied_empty _ _ c.new.ensures.empty c.new-2.ensures, seated_empty _ _ c.new-3.ensures c.new.ensures.empty, none_counted _ _ c.new.ensures.empty)
