use Rattle.row_reading.proofs.SortedRows.{what_stands_is_read}
use Rattle.row_reading.proofs.laws.what_stands_is_read.Goals as goal

pub returns : goal.returns
returns c = what_stands_is_read
