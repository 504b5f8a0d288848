use Rattle.std.proofs.Common.{ap}
use Rattle.std.specs.Prelude.{is_some}
use Rattle.std.specs.FinMap as map_of
use Rattle.topic_parts.proofs.Held.{holder_is}
use Rattle.tick_events.proofs.Recounted.{ends, fewer_left, goes_on}
use Rattle.tick_events.proofs.rewinding.recount_all.Goals as goal

pub loop-position-smaller : goal.loop-position-smaller
loop-position-smaller c =
    fewer_left c.loop-position.subscription c.redeliver.new.self c.in-Some.position c.redeliver.ensures
    (ap is_some (holder_is c.in-Some.ensures.0 (map_of.get c.loop-position.subscription.pending.pending c.in-Some.position) c.in-Some.ensures.1.0).1)

pub loop-position-preserved : goal.loop-position-preserved
loop-position-preserved c =
    goes_on c.args.subscription.now c.loop-position.subscription c.redeliver.new.self c.in-Some.position c.redeliver.ensures
    (ap is_some (holder_is c.in-Some.ensures.0 (map_of.get c.loop-position.subscription.pending.pending c.in-Some.position) c.in-Some.ensures.1.0).1) c.loop-position.invariant

pub returns : goal.returns
returns c = ends c.args.subscription.now c.loop-position.subscription c.in_default.ensures c.loop-position.invariant
