use Rattle.std.proofs.Common.{arith, inr}
use Rattle.ack_ranges.proofs.Members.{has_set}
use Rattle.ack_ranges.proofs.Missing.{takes_last, takes_own, takes_first}
use Rattle.ack_ranges.proofs.Sets.{low_before}
use Rattle.ack_ranges.proofs.joining.start_for.Goals as goal

pub returns-then-place-low-clause-none : goal.returns-then-place-low-clause-none
returns-then-place-low-clause-none c = low_before c.args.low c.args.ranges.now.entries c.args.place c.if-place-low.true

pub returns-then-place-end-clause-none : goal.returns-then-place-end-clause-none
returns-then-place-end-clause-none c =
    let last = c.in-Some.ensures.some in
    has_set c.args.low c.args.ranges.now.entries c.args.place (inr (_, _, last.0, last.1, c.if-place-end.true))

pub returns-then-place-end-2-clause-some : goal.returns-then-place-end-2-clause-some
returns-then-place-end-2-clause-some c = takes_last c.args.low c.args.ranges.now.entries c.requires.rise c.requires.small c.ranges.low.fits c.args.place _ _ c.in-Some.ensures.some c.if-place-end-2.true

pub returns-else-place-end-2-clause-some : goal.returns-else-place-end-2-clause-some
returns-else-place-end-2-clause-some c = takes_own c.args.low c.args.ranges.now.entries c.requires.rise c.requires.small c.ranges.low.fits c.args.place _ _ c.in-Some.ensures.some c.if-place-end.false c.if-place-end-2.false (omega (arith, c.if-place-low.false, c.requires.other))

pub returns-in-None-clause-some : goal.returns-in-None-clause-some
returns-in-None-clause-some c = takes_first c.args.low c.args.ranges.now.entries c.requires.rise c.requires.small c.ranges.low.fits c.args.place c.in-None.ensures.none (omega (arith, c.if-place-low.false, c.requires.other))
