use Rattle.std.proofs.Common.{◌≡◌, ℕ, ◌<◌, ◌≤◌}
use Rattle.number_sets.specs.Nodes.{node_at, lowered}
use Rattle.number_sets.proofs.node.lower.Given as goal

abbrev pub invariant-loop-node : goal.invariant-loop-node
invariant-loop-node l = record {
  below : (k : ℕ) → k < l.node-index → node_at l.nodes k ≡ lowered l.by (node_at l.fn.nodes k);
  behind : (k : ℕ) → l.node-index ≤ k → node_at l.nodes k ≡ node_at l.fn.nodes k;
}
