use Rattle.std.proofs.Common.{arith}
use Rattle.number_sets.specs.Nodes.{node_at}
use Rattle.number_sets.proofs.Climb.{climbed, leaves_climbed, half_up}
use Rattle.number_sets.proofs.node.least.Goals as goal

pub loop-left-preserved : goal.loop-left-preserved
loop-left-preserved c =
    let is = c.loop-left.invariant in
    record {
      some = rw (c.div_ceil-left.ensures, half_up c.loop-left.left) (omega arith);
      within = omega arith;
      climb = rw (c.div_ceil-left.ensures, half_up c.loop-left.left, c.better-least.ensures, c.better.ensures)
          (climbed (node_at c.args.nodes.now) c.requires.right _ _ _ _ _ _ _ is.some c.loop-left-test.true is.within c.counted-leftmost.ensures c.counted-rightmost.ensures is.climb);
    }

pub returns : goal.returns
returns c = leaves_climbed (node_at c.args.nodes.now) _ _ _ _ _ c.loop-left-test.false c.loop-left.invariant.climb
