use Rattle.std.proofs.Common.{◌+◌, ◌<◌, ◌≤◌}
use Rattle.number_sets.specs.Nodes.{node_at}
use Rattle.number_sets.proofs.Climb.{IsClimb}
use Rattle.number_sets.proofs.node.least.Given as goal

abbrev pub invariant-loop-left : goal.invariant-loop-left
invariant-loop-left l = record {
  some : 0 < l.left;
  within : l.right ≤ 512;
  climb : IsClimb (node_at l.fn.nodes) (256 + l.fn.from) (256 + l.fn.end) l.left l.right l.least;
}

abbrev pub decreases-loop-left : goal.decreases-loop-left
decreases-loop-left l = l.right
