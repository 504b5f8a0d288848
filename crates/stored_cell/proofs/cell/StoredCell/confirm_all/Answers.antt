use Rattle.std.proofs.Common.{subst, sym, Some, None}
use Rattle.std.specs.Prelude.{false}
use Rattle.stored_cell.specs.Noted.{Noted, IsStored}
use Rattle.stored_cell.specs.Held.{IsSound}
use Rattle.stored_cell.proofs.Sound.{sound_all}
use Rattle.stored_cell.proofs.cell.StoredCell.confirm_all.Goals as goal

pub invariant_of-self : goal.invariant_of-self
invariant_of-self g c =
    let kept = c.new.ensures.value in
    let stands : IsStored c.args.kept = subst IsStored kept c.new.ensures.stands in
    subst (λ (n : Noted). IsSound (record { cell = c.store_all-durable.new.self; stored = Some n; outstanding = None; by_word = false })) (sym kept)
    (sound_all _ c.store_all-durable.new.self c.args.kept c.store_all-durable.result c.self.invariant (rw (← c.self.view_is) at c.requires.now) stands c.store_all-durable.ensures)
