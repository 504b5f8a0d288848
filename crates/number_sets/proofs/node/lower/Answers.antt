use Rattle.std.proofs.Common.{arith}
use Rattle.number_sets.proofs.Lowered.{all_lowered, right_lowered}
use Rattle.number_sets.proofs.node.lower.Goals as goal

pub returns-clause-right : goal.returns-clause-right
returns-clause-right c =
    right_lowered c.args.nodes.now c.loop-node.nodes c.args.by (omega (arith, c.requires.sized)) c.requires.right c.requires.least
    (all_lowered c.args.nodes.now c.loop-node.nodes c.args.by c.loop-node.node-index (omega (arith, c.loop-node-test.false, c.loop-node.auto.nodes)) (omega (arith, c.loop-node-test.false)) c.loop-node.invariant.below)
