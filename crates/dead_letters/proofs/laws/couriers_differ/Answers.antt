use Rattle.dead_letters.proofs.CourierNames.{couriers_differ}
use Rattle.dead_letters.proofs.laws.couriers_differ.Goals as goal

pub returns : goal.returns
returns c = couriers_differ
