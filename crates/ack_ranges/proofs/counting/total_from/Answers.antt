use Rattle.std.proofs.Common.{arith}
use Rattle.ack_ranges.proofs.Counts.{counts_fit, counts_on, counts_out, longest}
use Rattle.ack_ranges.proofs.counting.total_from.Goals as goal

pub returns-then-stop-from : goal.returns-then-stop-from
returns-then-stop-from c = counts_out c.args.from c.args.ranges.now.entries c.each.left c.last_of.new.left (c.in-Some.start, c.in-Some.stop) c.args.low c.each.count c.each.invariant c.in-Some.ensures.some c.if-stop-from.true

pub overflow_sub-count : goal.overflow_sub-count
overflow_sub-count c = longest c.args.from c.args.ranges.now.entries c.each.left c.last_of.new.left (c.in-Some.start, c.in-Some.stop) c.args.low c.each.count c.each.invariant c.in-Some.ensures.some c.max.result c.max.ensures (omega (arith, c.if-stop-from.false))

pub overflow_add-count : goal.overflow_add-count
overflow_add-count c =
    let fits = counts_fit c.args.from c.args.ranges.now.entries c.each.left c.last_of.new.left (c.in-Some.start, c.in-Some.stop) c.args.low c.each.count c.each.invariant c.in-Some.ensures.some c.max.result c.max.ensures c.requires.rise c.requires.small (omega (arith, c.ranges.low.fits)) in
    omega (arith, fits)

pub each-preserved : goal.each-preserved
each-preserved c = counts_on c.args.from c.args.ranges.now.entries c.each.left c.last_of.new.left (c.in-Some.start, c.in-Some.stop) c.args.low c.each.count c.each.invariant c.in-Some.ensures.some c.max.result c.max.ensures
