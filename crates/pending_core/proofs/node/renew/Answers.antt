use Rattle.pending_core.proofs.Rows.{slots_of-set_first, first_at-set_same, first_at-set_other}
use Rattle.std.proofs.Common.{◌∙◌}
use Rattle.pending_core.proofs.node.renew.Goals as goal

pub returns-clause-slots : goal.returns-clause-slots
returns-clause-slots c = slots_of-set_first c.args.nodes.now c.args.at _ _

pub returns-clause-others : goal.returns-clause-others
returns-clause-others c k ne = first_at-set_other c.args.nodes.now c.args.at k _ ne

pub returns-clause-here : goal.returns-clause-here
returns-clause-here c = first_at-set_same c.args.nodes.now c.args.at _ c.requires ∙ c.first_from-first.ensures
