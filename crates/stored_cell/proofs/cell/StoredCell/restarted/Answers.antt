use Rattle.std.proofs.Common.{◌≡◌, ap, subst, sym, ◌∙◌}
use Rattle.stored_cell.specs.Noted.{Noted}
use Rattle.delivery_machine.specs.Snapshot.{restarted}
use Rattle.delivery_machine.specs.WellFormed.{IsSound}
use Rattle.delivery_machine.specs.Places.{KeptTopic, snapshot_in}
use Rattle.stored_cell.proofs.Sound.{sound_restarted}
use Rattle.stored_cell.proofs.cell.StoredCell.restarted.Goals as goal

pub invariant_of-result : goal.invariant_of-result
invariant_of-result g c =
    let same : c.new.result ≡ c.args.kept = c.new.ensures.value in
    let snapshot : c.args.snapshot.now ≡ c.new.result.kept = sym c.requires.snapshot ∙ ap (λ (n : Noted). n.kept) (sym same) in
    let sound = subst (λ (kept : KeptTopic). IsSound (snapshot_in kept)) snapshot c.had_at.ensures.restarts.sound in
    sound_restarted c.args.cell c.new.result sound c.requires.viewed (subst (λ (n : Noted). c.args.cell.state ≡ restarted (snapshot_in n.kept)) (sym same) c.requires.restarted) c.new.ensures.stands
