use Rattle.std.proofs.Common.{subst}
use Rattle.topic_shared.specs.Kept.{Kept, Leads}
use Rattle.topic_shared.proofs.Cells.{leads_on}
use Rattle.topic_shared.proofs.cell.Cell.leads.Goals as goal

pub returns : goal.returns
returns g c = subst (λ (k : Kept). Leads k.began k.state) c.self.view_is (leads_on _ _ _ _ c.self.invariant)
