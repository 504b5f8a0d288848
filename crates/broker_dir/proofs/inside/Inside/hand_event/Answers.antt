use Rattle.broker_dir.proofs.MayLeave.{detached}
use Rattle.broker_dir.proofs.inside.Inside.hand_event.Goals as goal

-- the topic always hears of who leaves
pub returns-in-Err-clause-leaves : goal.returns-in-Err-clause-leaves
returns-in-Err-clause-leaves g c leaves = c.in-Err.ensures.ends (detached c.args.self.now.topic.cell.cell c.args.event leaves)
