use Rattle.std.proofs.Common.{◌∙◌}
use Rattle.std.proofs.lemmas.List.{map-set}
use Rattle.pending_core.proofs.Rows.{right_but-set_slot}
use Rattle.pending_core.proofs.row.set.Goals as goal

pub mend-requires-clause-others : goal.mend-requires-clause-others
mend-requires-clause-others c = right_but-set_slot c.args.nodes.now c.args.at _ c.args.slot c.requires.within c.requires.right

pub returns-clause-slots : goal.returns-clause-slots
returns-clause-slots c = c.mend.ensures.slots ∙ map-set (λ node. node.slot) c.args.nodes.now c.args.at _
