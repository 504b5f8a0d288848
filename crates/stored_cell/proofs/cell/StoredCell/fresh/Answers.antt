use Rattle.stored_cell.proofs.Sound.{sound_fresh}
use Rattle.stored_cell.proofs.cell.StoredCell.fresh.Goals as goal

pub invariant_of-result : goal.invariant_of-result
invariant_of-result g c = sound_fresh c.args.cell c.requires.viewed c.requires.fresh
