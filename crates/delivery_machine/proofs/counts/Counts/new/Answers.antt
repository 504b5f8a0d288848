use Rattle.std.proofs.Common.{sym, subst}
use Rattle.std.specs.List.Sorted.{IsStrictlySortedBy}
use Rattle.delivery_machine.proofs.CountsListed.{AreRising}
use Rattle.delivery_machine.proofs.counts.Counts.new.Goals as goal

pub invariant_of-result : goal.invariant_of-result
unfolding IsStrictlySortedBy
invariant_of-result c = subst AreRising (sym c.new.ensures.items) tt
