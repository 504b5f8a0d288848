use Rattle.std.proofs.Common.{arith}
use Rattle.ack_ranges.proofs.Sizes.{size_small}
use Rattle.ack_ranges.proofs.spans.Spans.add.Goals as goal

pub overflow_add-self : goal.overflow_add-self
overflow_add-self c =
    let now = c.in-Ok-true.ensures.ok in
    let counted = rw c.in-Ok-true.field-0-test at now.counted in
    omega (arith, size_small _ _ now.up_small now.small now.rise, counted, c.self.invariant.counted)
