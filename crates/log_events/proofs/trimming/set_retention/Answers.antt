use Rattle.std.proofs.Common.{refl}
use Rattle.log_events.proofs.SameLog.{bound_ruled, ruled}
use Rattle.log_events.proofs.trimming.set_retention.Goals as goal

pub returns-clause-answers : goal.returns-clause-answers
returns-clause-answers c = (refl, (refl, ruled c.args.served.now c.set_retention.new.self c.args.retention c.set_retention.ensures))

pub returns-clause-bound : goal.returns-clause-bound
returns-clause-bound c = bound_ruled c.args.served.now c.set_retention.new.self c.args.retention c.set_retention.ensures c.requires.bound
