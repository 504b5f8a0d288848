use Rattle.ack_ranges.proofs.Raised.{lowered_below, raised_more}
use Rattle.ack_ranges.proofs.ack_set.AckSet.add_below.Goals as goal

pub invariant_of-self : goal.invariant_of-self
invariant_of-self c =
    rw c.add_below.ensures (raised_more c.self.inside.base c.self.inside.spans c.self.invariant c.raised.result c.args.end c.raised.ensures c.ranges.end.fits)

pub returns : goal.returns
returns c =
    rw (← c.self.view_is, c.add_below.ensures, c.raised.ensures) (lowered_below c.self.inside.base c.self.inside.spans c.self.invariant c.args.end)
