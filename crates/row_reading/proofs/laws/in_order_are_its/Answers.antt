use Rattle.row_reading.proofs.OneSnapshot.{in_order_are_its}
use Rattle.row_reading.proofs.laws.in_order_are_its.Goals as goal

pub returns : goal.returns
returns c = in_order_are_its
