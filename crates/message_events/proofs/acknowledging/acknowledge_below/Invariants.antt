use Rattle.std.proofs.Common.{◌-◌}
use Rattle.message_events.proofs.InTurn.{IsUpTo}
use Rattle.message_events.proofs.acknowledging.acknowledge_below.Given as goal

abbrev pub invariant-loop-index : goal.invariant-loop-index
invariant-loop-index l = IsUpTo l.initial.served l.served l.consumer l.name l.place l.end l.index

abbrev pub decreases-loop-index : goal.decreases-loop-index
decreases-loop-index l = l.end - l.index
