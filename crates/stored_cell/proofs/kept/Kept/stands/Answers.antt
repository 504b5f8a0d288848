use Rattle.std.proofs.Common.{subst}
use Rattle.stored_cell.specs.Noted.{IsStored}
use Rattle.stored_cell.proofs.kept.Kept.stands.Goals as goal

pub returns : goal.returns
returns g c = subst IsStored c.self.view_is c.self.invariant
