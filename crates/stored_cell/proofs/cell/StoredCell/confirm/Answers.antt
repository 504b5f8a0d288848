use Rattle.std.proofs.Common.{rules, ◌≡◌, ◌+◌, subst, sym, Some, None, length}
use Rattle.delivery_machine.specs.declared.event.Event.TheVariants.{StoredTo}
use Rattle.topic_shared.specs.Kept.{StoresLine}
use Rattle.stored_cell.specs.Noted.{Noted, IsStored}
use Rattle.stored_cell.specs.Held.{IsSound}
use Rattle.stored_cell.proofs.Sound.{sound_confirmed}
use Rattle.stored_cell.proofs.cell.StoredCell.confirm.Goals as goal

pub invariant_of-self : goal.invariant_of-self
invariant_of-self g c =
    let kept = c.new.ensures.value in
    let viewed : c.in-Some.viewed ≡ c.args.kept.kept = search rules in
    let count = c.confirm.result in
    let line : StoresLine c.self.inside.cell (StoredTo (c.args.kept.kept.gone + length c.args.kept.kept.log) c.args.kept.kept.next_ordinal) count c.confirm.new.self = search rules in
    let stands : IsStored c.args.kept = subst IsStored kept c.new.ensures.stands in
    let outstanding : c.self.inside.outstanding ≡ Some c.args.kept.kept = search rules in
    subst (λ (n : Noted). IsSound (record { cell = c.confirm.new.self; stored = Some n; outstanding = None; by_word = c.self.inside.by_word })) (sym kept)
    (sound_confirmed _ c.confirm.new.self c.args.kept count c.self.invariant outstanding stands line)
