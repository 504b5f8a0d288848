use Rattle.replay_core.proofs.Endings.{no_replay}
use Rattle.replay_core.proofs.engine.replay_over.Goals as goal

pub returns-in-Err : goal.returns-in-Err
returns-in-Err g c = no_replay _ _
