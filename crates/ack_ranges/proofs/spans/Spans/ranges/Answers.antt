use Rattle.ack_ranges.proofs.Lowering.{are_within, are_lowered, low_within}
use Rattle.ack_ranges.proofs.spans.Spans.ranges.Goals as goal

pub lowered-requires : goal.lowered-requires
lowered-requires c = low_within c.args.base c.self.inside.low c.self.inside.ranges.entries (rw c.self.view_is c.requires)

pub of-requires : goal.of-requires
of-requires c =
    rw c.iter.ensures.rest (are_within c.args.base c.self.inside.low c.self.inside.ranges.entries c.self.invariant.rise (rw c.self.view_is c.requires))

pub returns : goal.returns
returns c =
    rw (c.of.ensures, c.iter.ensures.rest, c.lowered.ensures, ← c.self.view_is)
    (are_lowered c.args.base c.self.inside.low c.self.inside.ranges.entries c.self.invariant.rise (rw c.self.view_is c.requires))
