use Rattle.ack_ranges.proofs.Unions.{follows_first, follows_last, in_order}
use Rattle.ack_ranges.proofs.joining.append.Goals as goal

pub returns-then-start-eq0-clause-ok : goal.returns-then-start-eq0-clause-ok
returns-then-start-eq0-clause-ok c = follows_first c.args.low.now c.args.ranges.now.entries c.args.start c.args.end c.requires.rise c.requires.follows c.if-start-eq0.true c.ranges.end.fits

pub returns-in-Ok-clause-ok : goal.returns-in-Ok-clause-ok
returns-in-Ok-clause-ok c = rw (c.in-Ok.ensures.entries, in_order c.args.low.now c.args.ranges.now.entries c.args.start c.args.end c.requires.rise c.requires.follows) (follows_last c.args.low.now c.args.ranges.now.entries c.args.start c.args.end c.requires.rise c.requires.follows c.if-start-eq0.false c.requires.low_small c.requires.small c.ranges.end.fits)
