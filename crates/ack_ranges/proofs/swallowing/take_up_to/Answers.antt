use Rattle.ack_ranges.proofs.Unions.{swallows_next}
use Rattle.ack_ranges.proofs.swallowing.take_up_to.Goals as goal

pub taking-preserved : goal.taking-preserved
taking-preserved c = swallows_next c.args.ranges.now.entries c.args.end c.taking.ranges.entries (c.in-Some.start, c.in-Some.stop) c.pop_up_to.new.ranges.entries c.taking.taken.end c.max.result c.taking.taken.count c.taking.invariant c.in-Some.ensures.some c.in-Some.ensures.begins c.max.ensures
