use Rattle.std.proofs.Common.{◌∙◌, arith}
use Rattle.ack_ranges.proofs.Sizes.{size_small}
use Rattle.ack_ranges.proofs.Unions.{already, raised}
use Rattle.ack_ranges.proofs.spans.Spans.add_below.Goals as goal

pub returns-then-end-self : goal.returns-then-end-self
returns-then-end-self c = rw (← c.self.view_is) (already c.self.inside.low c.self.inside.ranges.entries c.args.end c.if-end-self.true)

pub overflow_add-self : goal.overflow_add-self
overflow_add-self c =
    let taken = c.take_up_to-taken.ensures.taken in
    omega (arith, size_small _ _ taken.to_small taken.small c.take_up_to-taken.ensures.apart, taken.counted, c.self.invariant.counted)

pub returns : goal.returns
returns c = rw (← c.self.view_is) (c.take_up_to-taken.ensures.taken.same ∙ raised c.self.inside.low c.self.inside.ranges.entries c.args.end (omega (arith, c.if-end-self.false)))
