use Rattle.std.proofs.Common.{◌≡◌, ◌<◌, length}
use Rattle.pending_core.specs.Nodes.{slots_of, IsRightBut}
use Rattle.pending_core.proofs.node.mend.Given as goal

abbrev pub invariant-loop-at : goal.invariant-loop-at
invariant-loop-at l = record {
  within : l.at < length l.nodes;
  others : IsRightBut l.at l.nodes;
  slots : slots_of l.nodes ≡ slots_of l.fn.nodes;
}

abbrev pub decreases-loop-at : goal.decreases-loop-at
decreases-loop-at l = l.at
