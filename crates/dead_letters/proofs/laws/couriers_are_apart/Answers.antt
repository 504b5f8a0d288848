use Rattle.dead_letters.proofs.CourierNames.{couriers_are_apart}
use Rattle.dead_letters.proofs.laws.couriers_are_apart.Goals as goal

pub returns : goal.returns
returns c = couriers_are_apart
