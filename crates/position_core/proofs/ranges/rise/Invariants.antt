use Rattle.std.proofs.Common.{drop, ◌≤◌}
use Rattle.std.specs.Prelude.{◌↔◌}
use Rattle.position_core.specs.Ranges.{Rise}
use Rattle.position_core.proofs.ranges.rise.Given as goal

abbrev pub invariant-loop-range : goal.invariant-loop-range
invariant-loop-range l = record {
  within : l.from ≤ 65536;
  rest : Rise 0 l.ranges ↔ Rise l.from (drop l.range-index l.ranges);
}
