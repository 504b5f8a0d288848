use Rattle.replay_core.proofs.Endings.{no_replay}
use Rattle.replay_core.proofs.plain.replay_fresh.Goals as goal

pub returns-in-Ok : goal.returns-in-Ok
returns-in-Ok g c = rw c.in-Ok.ensures at c.replay_named.ensures

pub returns-in-Err : goal.returns-in-Err
returns-in-Err g c = (_, no_replay _ _)
