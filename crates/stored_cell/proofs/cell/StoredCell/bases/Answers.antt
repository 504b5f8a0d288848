use Rattle.std.proofs.Common.{All, subst, sym}
use Rattle.stored_cell.specs.Held.{IsBeginning}
use Rattle.stored_cell.proofs.Sound.{bases_begin}
use Rattle.stored_cell.proofs.cell.StoredCell.bases.Goals as goal

pub returns-clause-begins : goal.returns-clause-begins
returns-clause-begins g c =
    rw (← c.self.view_is) (subst (All (IsBeginning c.self.inside.cell.state)) (sym c.bases_of.ensures) (bases_begin _ c.self.invariant))
