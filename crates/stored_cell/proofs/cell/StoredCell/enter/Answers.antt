use Rattle.std.proofs.Common.{rules, ◌≡◌}
use Rattle.stored_cell.proofs.Sound.{sound_same}
use Rattle.stored_cell.proofs.cell.StoredCell.enter.Goals as goal

pub invariant_of-self : goal.invariant_of-self
invariant_of-self g c =
    let state : c.enter.new.self.state ≡ c.self.inside.cell.state = search rules in
    let viewed : c.enter.new.self.viewed ≡ c.self.inside.cell.viewed = search rules in
    let promised : c.enter.new.self.promised ≡ c.self.inside.cell.promised = search rules in
    sound_same _ c.enter.new.self c.self.invariant state viewed promised
