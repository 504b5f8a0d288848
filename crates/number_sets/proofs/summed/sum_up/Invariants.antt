use Rattle.std.proofs.Common.{◌≡◌}
use Rattle.number_sets.proofs.Front.{UsedBelow}
use Rattle.number_sets.proofs.summed.sum_up.Given as goal

abbrev pub invariant-loop-index : goal.invariant-loop-index
invariant-loop-index g l = record {
  room : g.S.Layer.room l.above ≡ g.S.Layer.room l.fn.above;
  has : UsedBelow (g.S.Layer.has l.above) l.words l.index;
}
