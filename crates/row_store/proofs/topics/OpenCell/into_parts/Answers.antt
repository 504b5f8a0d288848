use Rattle.row_store.proofs.Restarting.{has_its_origin}
use Rattle.row_store.proofs.topics.OpenCell.into_parts.Goals as goal

pub returns-clause-origin : goal.returns-clause-origin
returns-clause-origin g c = has_its_origin c.self.inside.rows c.self.inside.cell c.self.invariant.1
