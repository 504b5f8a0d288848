use Rattle.stored_cell.proofs.Sound.{all_go_on}
use Rattle.row_store.proofs.keeper.Keeper.part_of.Goals as goal

pub marked-requires : goal.marked-requires
marked-requires g c = record { bases = all_go_on c.args.cell.now.cell.state c.in-Ok.snapshot c.bases.result c.in-Ok.ensures.ok c.bases.ensures.begins }
