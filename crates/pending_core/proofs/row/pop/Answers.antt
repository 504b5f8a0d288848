use Rattle.std.proofs.Common.{arith, ap, length}
use Rattle.std.proofs.lemmas.List.{length-take}
use Rattle.pending_core.proofs.Rows.{right_but-pop}
use Rattle.pending_core.proofs.row.pop.Goals as goal

pub mend-requires-clause-within : goal.mend-requires-clause-within
mend-requires-clause-within c = omega (arith, c.deref_mut.ensures.len)

pub mend-requires-clause-others : goal.mend-requires-clause-others
mend-requires-clause-others c =
    let nodes = c.args.nodes.now in
    let shorter = simp length-take at (ap length c.pop.ensures.rest) in
    rw (c.deref_mut.ensures.value, c.parent.ensures, c.pop.ensures.rest)
    (right_but-pop nodes.items _ c.len-left.result nodes.ok.0 (omega (arith, c.len-left.ensures, c.pop.new.self.ok.0, nodes.ok.0)) c.requires)
