use Rattle.std.proofs.Common.{refl}
use Rattle.replay_core.specs.Replay.{bad_id}
use Rattle.replay_core.proofs.engine.append_line_answer.Goals as goal

pub returns-in-Event : goal.returns-in-Event
returns-in-Event g c = rw c.in-Event.is c.append_event_answer.ensures

pub returns-in-Restart : goal.returns-in-Restart
returns-in-Restart g c = rw c.in-Restart.is c.append_restart.ensures

pub returns-in-BadId : goal.returns-in-BadId
returns-in-BadId g c = rw c.in-BadId.is (bad_id, refl, refl, c.append_bad_id.ensures)
