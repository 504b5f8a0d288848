use Rattle.std.proofs.Common.{◌-◌, ℕ, arith, ap, ◌∙◌}
use Rattle.std.specs.FinSet as set
use Rattle.ack_ranges.specs.Kept.{set_of}
use Rattle.ack_ranges.proofs.Counts.{all_below, count_rest, counted_below, total_within}
use Rattle.ack_ranges.proofs.spans.Spans.count_below.Goals as goal

pub returns-then-end-self-clause-value : goal.returns-then-end-self-clause-value
returns-then-end-self-clause-value c = rw (← c.self.view_is) (all_below c.self.inside.low c.args.end c.self.inside.ranges.entries c.if-end-self.true)

pub overflow_sub-result : goal.overflow_sub-result
overflow_sub-result c = omega (arith, c.total_from.ensures, total_within c.self.inside.low c.args.end c.self.inside.ranges.entries c.self.invariant.rise, c.self.invariant.counted)

pub returns-clause-value : goal.returns-clause-value
returns-clause-value c =
    rw (← c.self.view_is)
    (ap (λ (n : ℕ). c.self.inside.count - n) c.total_from.ensures
    ∙ counted_below c.self.inside.low c.args.end c.self.inside.count c.self.inside.ranges.entries c.self.invariant.rise (omega (arith, c.if-end-self.false)) c.self.invariant.counted)

pub returns-clause-within : goal.returns-clause-within
returns-clause-within c =
    let counted = ap (λ (n : ℕ). c.self.inside.count - n) c.total_from.ensures ∙ counted_below c.self.inside.low c.args.end c.self.inside.count c.self.inside.ranges.entries c.self.invariant.rise (omega (arith, c.if-end-self.false)) c.self.invariant.counted in
    omega (arith, counted, count_rest (set.contains (set_of c.self.inside.low c.self.inside.ranges.entries)) 0 c.args.end)
