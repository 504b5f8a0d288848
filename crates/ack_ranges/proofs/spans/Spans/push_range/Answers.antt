use Rattle.std.proofs.Common.{arith}
use Rattle.ack_ranges.proofs.Sizes.{size_small}
use Rattle.ack_ranges.proofs.spans.Spans.push_range.Goals as goal

pub overflow_add-self : goal.overflow_add-self
overflow_add-self c =
    let now = c.in-Ok.ensures.ok in
    omega (arith, size_small _ _ now.up_small now.small now.rise, now.counted, c.self.invariant.counted)
