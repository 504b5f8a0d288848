use Rattle.std.proofs.Common.{◌≡◌, ◌-◌}
use Rattle.std.specs.FinSet as set
use Rattle.hash_rows.proofs.Shed.{AreMoved}
use Rattle.hash_rows.proofs.shedding.lower.Given as goal

abbrev pub invariant-loop-rank : goal.invariant-loop-rank
invariant-loop-rank l = record {
  moved : AreMoved l.gone l.from (set.contains l.initial.ranks.places) (set.contains l.ranks.places);
  room : l.ranks.room ≡ l.initial.ranks.room;
}

abbrev pub decreases-loop-rank : goal.decreases-loop-rank
decreases-loop-rank l = l.end - l.from
