use Rattle.machine_laws.proofs.SixtyFour.{may_be_gone}
use Rattle.machine_laws.proofs.laws.trims_lose_nothing_example.Goals as goal

pub returns : goal.returns
returns c = may_be_gone
