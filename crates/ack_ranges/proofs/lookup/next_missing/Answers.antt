use Rattle.std.proofs.Common.{arith}
use Rattle.ack_ranges.proofs.Missing.{missing_low, missing_end, missing_after, missing_none}
use Rattle.ack_ranges.proofs.lookup.next_missing.Goals as goal

pub returns-then-from-low : goal.returns-then-from-low
returns-then-from-low c = missing_low c.args.low c.args.ranges.now.entries c.requires.rise c.requires.small c.ranges.low.fits c.args.from (omega (arith, c.if-from-low.true))

pub returns-then-from-end : goal.returns-then-from-end
returns-then-from-end c = missing_end c.args.low c.args.ranges.now.entries c.requires.rise c.requires.small c.ranges.low.fits c.args.from _ _ c.in-Some.ensures.some c.if-from-end.true

pub returns-else-from-end : goal.returns-else-from-end
returns-else-from-end c = missing_after c.args.low c.args.ranges.now.entries c.requires.rise c.requires.small c.ranges.low.fits c.args.from _ _ c.in-Some.ensures.some c.if-from-end.false c.if-from-low.false

pub returns-in-None : goal.returns-in-None
returns-in-None c = missing_none c.args.low c.args.ranges.now.entries c.requires.rise c.requires.small c.ranges.low.fits c.args.from c.in-None.ensures.none c.if-from-low.false
