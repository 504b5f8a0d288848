use Rattle.std.proofs.Common.{◌∙◌, sym, ap}
use Rattle.std.specs.FinSet as set
use Rattle.ack_ranges.proofs.Sizes.{size_set_of}
use Rattle.ack_ranges.proofs.spans.Spans.len.Goals as goal

pub returns : goal.returns
returns c = c.self.invariant.counted ∙ sym (size_set_of c.self.inside.low c.self.inside.ranges.entries c.self.invariant.rise) ∙ ap set.len c.self.view_is
