use Rattle.row_reading.proofs.OneSnapshot.{one_stands}
use Rattle.row_reading.proofs.laws.one_stands.Goals as goal

pub returns : goal.returns
returns c = one_stands
