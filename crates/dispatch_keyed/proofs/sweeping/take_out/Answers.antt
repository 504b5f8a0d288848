use Rattle.dispatch_keyed.proofs.Standing.{row_taken}
use Rattle.dispatch_keyed.proofs.sweeping.take_out.Goals as goal

pub returns-clause-here : goal.returns-clause-here
returns-clause-here c = row_taken _ _ c.requires c.remove.ensures.updates.1
