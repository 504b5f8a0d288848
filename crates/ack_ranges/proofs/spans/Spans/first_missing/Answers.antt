use Rattle.std.proofs.Common.{sym, arith}
use Rattle.ack_ranges.proofs.Missing.{missing_low}
use Rattle.ack_ranges.proofs.spans.Spans.first_missing.Goals as goal

pub returns : goal.returns
returns c = rw (sym c.self.view_is) (missing_low c.self.inside.low c.self.inside.ranges.entries c.self.invariant.rise c.self.invariant.small c.self.invariant.low_small 0 (omega arith))
