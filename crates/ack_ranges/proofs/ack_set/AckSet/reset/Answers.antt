use Rattle.ack_ranges.proofs.Raised.{lowered_none, raised_below}
use Rattle.ack_ranges.proofs.ack_set.AckSet.reset.Goals as goal

pub invariant_of-self : goal.invariant_of-self
invariant_of-self c = rw (c.reset.ensures, c.from.ensures) (raised_below c.args.end c.ranges.end.fits)

pub returns : goal.returns
returns c = rw (c.reset.ensures, c.from.ensures) (lowered_none _)
