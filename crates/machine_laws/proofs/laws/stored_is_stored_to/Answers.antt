use Rattle.machine_laws.proofs.WellReached.{reached_all}
use Rattle.machine_laws.proofs.WellFormedStates.{stored_is}
use Rattle.machine_laws.proofs.laws.stored_is_stored_to.Goals as goal

pub returns : goal.returns
returns c s events replies t begins run = stored_is t (reached_all s events replies t begins run)
