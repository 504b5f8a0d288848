use Rattle.machine_laws.proofs.WellReached.{reached_all}
use Rattle.machine_laws.proofs.WellFormedStates.{sound_snapshot}
use Rattle.machine_laws.proofs.laws.snapshots_are_sound.Goals as goal

pub returns : goal.returns
returns c s events replies t begins run = sound_snapshot t (reached_all s events replies t begins run)
