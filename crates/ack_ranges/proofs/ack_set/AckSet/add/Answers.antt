use Rattle.ack_ranges.proofs.Raised.{gap_lowered}
use Rattle.ack_ranges.proofs.Changed.{added, added_is, gap_is}
use Rattle.ack_ranges.proofs.ack_set.AckSet.add.Goals as goal

pub returns-then-begins_too_high-clause-gap : goal.returns-then-begins_too_high-clause-gap
returns-then-begins_too_high-clause-gap c =
    rw (← c.self.view_is) (gap_lowered c.self.inside.base c.self.inside.spans c.self.invariant c.args.place (rw c.raised-kept.ensures at (c.begins_too_high.ensures.high c.if-begins_too_high.true).1))

pub invariant_of-self : goal.invariant_of-self
invariant_of-self c =
    added c.self.inside.base c.self.inside.spans c.self.invariant c.raised-kept.result c.args.place c.raised-kept.ensures c.requires (c.begins_too_high.ensures.low c.if-begins_too_high.false) c.add.result c.add.new.self c.add.ensures.ok c.add.ensures.err

pub returns-clause-ok : goal.returns-clause-ok
returns-clause-ok c =
    rw (← c.self.view_is) (added_is c.self.inside.base c.self.inside.spans c.self.invariant c.raised-kept.result c.args.place c.raised-kept.ensures c.add.result c.add.new.self c.add.ensures.ok)

pub returns-clause-gap : goal.returns-clause-gap
returns-clause-gap c =
    rw (← c.self.view_is) (gap_is c.self.inside.base c.self.inside.spans c.self.invariant c.raised-kept.result c.args.place c.raised-kept.ensures c.add.result c.add.ensures.gap)
