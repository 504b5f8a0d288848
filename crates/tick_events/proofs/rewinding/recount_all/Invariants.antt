use Rattle.std.specs.FinMap as map_of
use Rattle.tick_events.proofs.Recounted.{ComesToTheSame}
use Rattle.tick_events.proofs.rewinding.recount_all.Given as goal

abbrev pub invariant-loop-position : goal.invariant-loop-position
invariant-loop-position l = ComesToTheSame l.initial.subscription l.subscription

abbrev pub decreases-loop-position : goal.decreases-loop-position
decreases-loop-position l = map_of.len l.subscription.pending.pending
