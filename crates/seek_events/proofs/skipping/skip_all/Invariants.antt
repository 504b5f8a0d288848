use Rattle.std.proofs.Common.{◌-◌}
use Rattle.seek_events.proofs.InTurn.{IsSkipped}
use Rattle.seek_events.proofs.skipping.skip_all.Given as goal

abbrev pub invariant-loop-done : goal.invariant-loop-done
invariant-loop-done l = IsSkipped l.initial.served l.served l.name l.place l.count l.done

abbrev pub decreases-loop-done : goal.decreases-loop-done
decreases-loop-done l = l.count - l.done
