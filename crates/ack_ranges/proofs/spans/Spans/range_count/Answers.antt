use Rattle.std.proofs.Common.{◌+◌, ◌-◌, ap, ◌∙◌}
use Rattle.ack_ranges.specs.Kept.{with_low}
use Rattle.ack_ranges.specs.Lowered.{lower_ranges}
use Rattle.ack_ranges.proofs.Lowering.{are_lowered, length_lowered}
use Rattle.ack_ranges.proofs.spans.Spans.range_count.Goals as goal

pub returns : goal.returns
returns c =
    let low = c.self.inside.low in
    let es = c.self.inside.ranges.entries in (
      with_low (low - c.args.base) (lower_ranges c.args.base es),
      rw (← c.self.view_is) (are_lowered c.args.base low es c.self.invariant.rise (rw c.self.view_is c.requires)),
      ap (λ n. n + c.from-2.result) c.len.ensures.len ∙ length_lowered c.args.base low es c.from-2.result (rw c.from.ensures at c.from-2.ensures),
    )
