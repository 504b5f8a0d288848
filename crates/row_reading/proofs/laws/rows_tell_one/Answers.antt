use Rattle.row_reading.proofs.OneSnapshot.{rows_tell_one}
use Rattle.row_reading.proofs.laws.rows_tell_one.Goals as goal

pub returns : goal.returns
returns c = rows_tell_one
