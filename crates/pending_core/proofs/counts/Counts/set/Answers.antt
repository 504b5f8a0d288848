use Rattle.pending_core.proofs.Numbering.{changed_by_set, changed_by_remove}
use Rattle.pending_core.proofs.counts.Counts.set.Goals as goal

pub returns-then-number-eq0 : goal.returns-then-number-eq0
returns-then-number-eq0 c =
    rw (c.remove.ensures.items, c.if-number-eq0.true, ← c.self.view_is)
    (changed_by_remove c.self.inside.list.items c.self.invariant c.args.consumer c.args.place (rw c.self.view_is c.requires))

pub returns-else-number-eq0 : goal.returns-else-number-eq0
returns-else-number-eq0 c =
    rw (← c.self.view_is)
    (changed_by_set c.self.inside.list.items c.self.invariant c.args.consumer c.args.place (rw c.self.view_is c.requires) c.args.number)
