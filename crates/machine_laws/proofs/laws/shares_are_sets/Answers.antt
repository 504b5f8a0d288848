use Rattle.machine_laws.proofs.SharesByMode as sets
use Rattle.machine_laws.proofs.laws.shares_are_sets.Goals as goal

pub returns : goal.returns
returns c = sets.shares_are_sets
