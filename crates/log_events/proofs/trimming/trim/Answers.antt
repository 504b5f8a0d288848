use Rattle.topic_served.specs.Served.{state_in}
use Rattle.topic_served.proofs.Settled.{well_of}
use Rattle.log_events.proofs.trimming.trim.Goals as goal

pub going-count-requires-clause-well : goal.going-count-requires-clause-well
going-count-requires-clause-well c = well_of (state_in c.args.served.now) c.requires.reached

pub trim-requires-clause-well : goal.trim-requires-clause-well
trim-requires-clause-well c = well_of (state_in c.args.served.now) c.requires.reached
