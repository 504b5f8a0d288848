use Rattle.ack_ranges.proofs.Missing.{end_of_last, end_of_none}
use Rattle.ack_ranges.proofs.lookup.end_of.Goals as goal

pub returns-in-Some : goal.returns-in-Some
returns-in-Some c = end_of_last c.args.low c.args.ranges.now.entries c.requires.rise c.requires.small c.ranges.low.fits _ _ c.in-Some.ensures.value c.in-Some.ensures.greatest

pub returns-in-None : goal.returns-in-None
returns-in-None c = end_of_none c.args.low c.args.ranges.now.entries (λ some. c.in-None.ensures.variant.1 some)
