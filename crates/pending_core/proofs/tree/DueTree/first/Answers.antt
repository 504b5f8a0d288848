use Rattle.pending_core.proofs.Rows.{root_of_nodes}
use Rattle.pending_core.proofs.tree.DueTree.first.Goals as goal

pub returns : goal.returns
returns c = rw (← c.self.view_is, c.first_at.ensures, c.deref.ensures.value) (root_of_nodes c.self.inside.nodes.items c.self.invariant)
