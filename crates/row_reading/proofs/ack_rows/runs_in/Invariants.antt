use Rattle.std.proofs.Common.{length}
use Rattle.delivery_machine.specs.Places.{AreBelow}
use Rattle.row_reading.specs.Reading.{BeginsWithRuns}
use Rattle.row_reading.proofs.ack_rows.runs_in.Given as goal

abbrev pub invariant-runs : goal.invariant-runs
invariant-runs l = record {
  runs : BeginsWithRuns l.name l.gone l.places l.rows l.rest;
  below : AreBelow l.count l.places;
}

abbrev pub decreases-runs : goal.decreases-runs
decreases-runs l = length l.rest
