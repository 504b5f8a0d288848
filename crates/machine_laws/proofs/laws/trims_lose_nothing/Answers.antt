use Rattle.machine_laws.proofs.NothingLost as lost
use Rattle.machine_laws.proofs.laws.trims_lose_nothing.Goals as goal

pub returns : goal.returns
returns c = lost.trims_lose_nothing
