use Rattle.std.proofs.Common.{◌-◌}
use Rattle.dispatch_keyed.proofs.keyed.Keyed.+first_between.Given as goal

abbrev pub decreases-first_between : goal.decreases-first_between
decreases-first_between g l = l.end - l.from
