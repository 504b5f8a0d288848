use Rattle.std.proofs.Common.{◌≡◌, ℕ, ◌<◌, length}
use Rattle.number_sets.specs.Nodes.{leaf_at, IsRightBut}
use Rattle.number_sets.proofs.node.mend.Given as goal

abbrev pub invariant-loop-at : goal.invariant-loop-at
invariant-loop-at l = record {
  within : l.at < 512;
  sized : length l.nodes ≡ 512;
  others : IsRightBut l.at l.nodes;
  leaves : (k : ℕ) → leaf_at l.nodes k ≡ leaf_at l.fn.nodes k;
}

abbrev pub decreases-loop-at : goal.decreases-loop-at
decreases-loop-at l = l.at
