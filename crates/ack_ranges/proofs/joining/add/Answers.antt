use Rattle.std.proofs.Common.{ℕ, Option, ◌+◌, ◌∙◌, ap}
use Rattle.std.specs.Option.{unwrap_or}
use Rattle.ack_ranges.proofs.Adding.{adds_none, adds_low, adds_joined}
use Rattle.ack_ranges.proofs.Missing.{gap_before}
use Rattle.ack_ranges.proofs.joining.add.Goals as goal

pub returns-then-place-low-clause-ok : goal.returns-then-place-low-clause-ok
returns-then-place-low-clause-ok c = adds_low c.args.low.now c.args.ranges.now.entries c.requires.rise c.requires.small c.requires.low_small c.args.place c.remove.new.self.entries c.unwrap_or.result c.if-place-low.true c.remove.ensures.ordered c.requires.fits (c.unwrap_or.ensures ∙ ap (λ (o : Option ℕ). unwrap_or o (c.args.place + 1)) c.remove.ensures.value) c.remove.ensures.updates.1 c.remove.ensures.updates.2

pub returns-in-Ok-clause-ok : goal.returns-in-Ok-clause-ok
returns-in-Ok-clause-ok c = adds_joined c.args.low.now c.args.ranges.now.entries c.requires.rise c.requires.small c.requires.low_small c.args.place c.join.new.ranges.entries _ c.in-Ok.ensures.ordered c.requires.fits c.in-Some.ensures.some c.in-Ok.ensures.ok

pub returns-in-Err-clause-gap : goal.returns-in-Err-clause-gap
returns-in-Err-clause-gap c = gap_before c.args.low.now c.args.ranges.now.entries c.requires.rise c.requires.small c.requires.low_small _ c.args.place c.in-Some.ensures.some c.in-Err.ensures.absent

pub returns-in-None-clause-ok : goal.returns-in-None-clause-ok
returns-in-None-clause-ok c = adds_none c.args.low.now c.args.ranges.now.entries c.requires.rise c.requires.small c.requires.low_small c.args.place c.in-None.ensures.none
