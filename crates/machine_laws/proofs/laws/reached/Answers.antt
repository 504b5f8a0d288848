use Rattle.machine_laws.proofs.WellReached.{reached_all}
use Rattle.machine_laws.proofs.WellFormedStates.{well_formed}
use Rattle.machine_laws.proofs.laws.reached.Goals as goal

pub returns : goal.returns
returns c s events replies t begins run = well_formed t (reached_all s events replies t begins run)
