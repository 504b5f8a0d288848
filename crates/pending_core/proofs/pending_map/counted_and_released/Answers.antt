use Rattle.pending_core.proofs.Machine.{counted}
use Rattle.pending_core.proofs.pending_map.counted_and_released.Goals as goal

pub returns : goal.returns
returns c = counted
