use Rattle.std.proofs.Common.{ap}
use Rattle.std.specs.Arc.{arc_with_value}
use Rattle.broker_dir.proofs.table.is_sole.Goals as goal

pub returns-in-Some : goal.returns-in-Some
returns-in-Some g c = ap (arc_with_value c.args.topic.now) c.in-Some.ensures.value
