use Rattle.std.proofs.Common.{rules, ◌≡◌, subst, sym, Bool}
use Rattle.std.specs.Prelude.{◌||◌}
use Rattle.delivery_machine.specs.Journals.{is_storing}
use Rattle.stored_cell.specs.Held.{IsSound}
use Rattle.stored_cell.proofs.Sound.{sound_called}
use Rattle.stored_cell.proofs.cell.StoredCell.call.Goals as goal

pub invariant_of-self : goal.invariant_of-self
invariant_of-self g c =
    let word : c.is_either-self-inside.result ≡ (c.self.inside.by_word || is_storing c.args.event) = search rules in
    let step = c.in-Ok.ensures.step in
    subst (λ (b : Bool). IsSound (record { cell = c.call.new.self; stored = c.self.inside.stored; outstanding = c.self.inside.outstanding; by_word = b })) (sym word)
    (sound_called _ c.call.new.self c.args.event c.in-Ok.receipt.reply c.self.invariant step c.call.ensures.same.promised c.call.ensures.same.viewed)
