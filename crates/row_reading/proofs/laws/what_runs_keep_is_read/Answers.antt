use Rattle.row_reading.proofs.LimitsRead.{what_runs_keep_is_read}
use Rattle.row_reading.proofs.laws.what_runs_keep_is_read.Goals as goal

pub returns : goal.returns
returns c = what_runs_keep_is_read
