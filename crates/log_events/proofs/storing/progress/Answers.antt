use Rattle.topic_served.specs.Served.{state_in}
use Rattle.log_events.proofs.storing.progress.Goals as goal

pub returns : goal.returns
returns c = c.progress.ensures (state_in c.args.served.now)
