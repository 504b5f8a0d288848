use Rattle.std.proofs.Common.{length}
use Rattle.row_reading.specs.Places.{seen}
use Rattle.row_reading.specs.Reading.{BeginsWithCounts}
use Rattle.row_reading.proofs.Counts.{MayBeCounts}
use Rattle.row_reading.proofs.count_rows.counts_in.Given as goal

abbrev pub invariant-counts : goal.invariant-counts
invariant-counts l = record {
  rows : BeginsWithCounts l.name (seen l.done.kept) l.counts l.rows l.rest;
  counted : MayBeCounts (seen l.done.kept).log l.done.acknowledged.now l.done.dead.now l.counts;
}

abbrev pub decreases-counts : goal.decreases-counts
decreases-counts l = length l.rest
