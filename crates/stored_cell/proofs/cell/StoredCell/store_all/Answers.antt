use Rattle.stored_cell.proofs.Sound.{sound_stored}
use Rattle.stored_cell.proofs.cell.StoredCell.store_all.Goals as goal

pub invariant_of-self : goal.invariant_of-self
invariant_of-self g c = sound_stored _ c.store_all-durable.new.self c.store_all-durable.result c.self.invariant c.store_all-durable.ensures
