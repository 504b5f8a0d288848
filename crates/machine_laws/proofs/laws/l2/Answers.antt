use Rattle.machine_laws.proofs.Permitting.{permits_bound}
use Rattle.machine_laws.proofs.Windows.{windows_bound}
use Rattle.machine_laws.proofs.laws.l2.Goals as goal

pub returns : goal.returns
returns c = (permits_bound, windows_bound)
