use Rattle.std.proofs.Common.{ap}
use Rattle.topic_shared.specs.Kept.{Kept}
use Rattle.stored_cell.proofs.Sound.{sound_same}
use Rattle.stored_cell.proofs.cell.StoredCell.exit.Goals as goal

pub invariant_of-self : goal.invariant_of-self
invariant_of-self g c = sound_same _ c.exit.new.self c.self.invariant (ap (λ (k : Kept). k.state) c.exit.ensures) (ap (λ (k : Kept). k.viewed) c.exit.ensures) (ap (λ (k : Kept). k.promised) c.exit.ensures)
