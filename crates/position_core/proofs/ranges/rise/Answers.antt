use Rattle.std.proofs.Common.{true≢false, sym, arith, ◌∙◌}
use Rattle.position_core.proofs.RangesInOrder.{rise_on}
use Rattle.position_core.proofs.ranges.rise.Goals as goal

pub returns-then-not-is_range_from : goal.returns-then-not-is_range_from
returns-then-not-is_range_from c = (
  λ t. absurd (true≢false (sym t)),
  λ rise. absurd
      (true≢false (sym (c.is_range_from.ensures.1 ((rise_on c.loop-range.from c.loop-range.range-index c.args.ranges.now _ c.loop-range-test.true).0 (c.loop-range.invariant.rest.0 rise)).0) ∙ c.if-not-is_range_from.true)),
)

pub loop-range-preserved : goal.loop-range-preserved
loop-range-preserved c =
    let is = c.is_range_from.ensures.0 c.if-not-is_range_from.false in
    let on = rise_on c.loop-range.from c.loop-range.range-index c.args.ranges.now (record { first = 0; last = 0 }) c.loop-range-test.true in
    record {
      within = omega (arith, is.2);
      rest = (λ rise. (on.0 (c.loop-range.invariant.rest.0 rise)).1, λ rise. c.loop-range.invariant.rest.1 (on.1 (is, rise)));
    }
