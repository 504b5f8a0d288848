use Rattle.std.proofs.Common.{arith}
use Rattle.pending_core.proofs.Rows.{right_but-push}
use Rattle.pending_core.proofs.row.push.Goals as goal

pub mend-requires-clause-within : goal.mend-requires-clause-within
mend-requires-clause-within c = omega (arith, c.push.ensures.len, c.in_ok-push.ensures.len)

pub mend-requires-clause-others : goal.mend-requires-clause-others
mend-requires-clause-others c =
    rw (c.deref_mut.ensures.value, c.parent.ensures, c.in_ok-push.ensures.items, c.due-first.ensures)
    (right_but-push c.args.nodes.now.items c.args.slot c.len-at.result (omega (arith, c.len-at.ensures, c.args.nodes.now.ok.0)) c.requires)
