use Rattle.std.proofs.Common.{ap, sym, ◌∙◌}
use Rattle.std.specs.List.{slice_get}
use Rattle.std.proofs.lemmas.Option.{slice_get_within}
use Rattle.pending_core.proofs.Found.{removed_anew, moved_anew}
use Rattle.pending_core.proofs.Tied.{tied_without_last, tied_with_moved, moved_from}
use Rattle.pending_core.proofs.table.remove.Goals as goal

pub swap_remove-requires : goal.swap_remove-requires
swap_remove-requires c = slice_get_within _ _ _ (c.requires.placed c.args.position c.in-Some.gone (sym c.in-Some.ensures.value))

pub returns-in-Some-get-clause-tied : goal.returns-in-Some-get-clause-tied
returns-in-Some-get-clause-tied c =
    let es = c.args.table.now.entries in
    let fs = c.remove.new.self.entries in
    let k = c.in-Some.gone in
    let s = c.in-Some-get.moved in
    let gs = c.move_to.new.table.entries in
    let was = sym c.in-Some.ensures.value in
    let now = ap (λ ss. slice_get ss k.slot) (sym c.swap_remove.ensures.others) ∙ sym c.in-Some-get.ensures in
    let m = moved_from es fs c.args.slots.now c.args.position k c.swap_remove.result c.requires was c.remove.ensures.updates.0 s gs now c.move_to.ensures in
    rw c.swap_remove.ensures.others
    (tied_with_moved es fs c.args.slots.now c.args.position k c.swap_remove.result c.requires was c.remove.ensures.updates.0 s m.0 gs now m.1 m.2)

pub returns-in-Some-get-clause-seen : goal.returns-in-Some-get-clause-seen
returns-in-Some-get-clause-seen c =
    let es = c.args.table.now.entries in
    let fs = c.remove.new.self.entries in
    let k = c.in-Some.gone in
    let s = c.in-Some-get.moved in
    let gs = c.move_to.new.table.entries in
    let was = sym c.in-Some.ensures.value in
    let now = ap (λ ss. slice_get ss k.slot) (sym c.swap_remove.ensures.others) ∙ sym c.in-Some-get.ensures in
    let m = moved_from es fs c.args.slots.now c.args.position k c.swap_remove.result c.requires was c.remove.ensures.updates.0 s gs now c.move_to.ensures in
    moved_anew fs gs s.position m.0 k.slot m.1 m.2 ∙ removed_anew es fs c.args.position c.remove.ensures.updates.0

pub returns-in-None-get-clause-tied : goal.returns-in-None-get-clause-tied
returns-in-None-get-clause-tied c =
    let k = c.in-Some.gone in
    let end = ap (λ ss. slice_get ss k.slot) (sym c.swap_remove.ensures.others) ∙ sym c.in-None-get.ensures in
    rw c.swap_remove.ensures.others
    (tied_without_last c.args.table.now.entries c.remove.new.self.entries c.args.slots.now c.args.position k c.swap_remove.result c.requires (sym c.in-Some.ensures.value) c.remove.ensures.updates.0 end)

pub returns-in-None-get-clause-seen : goal.returns-in-None-get-clause-seen
returns-in-None-get-clause-seen c = removed_anew c.args.table.now.entries c.remove.new.self.entries c.args.position c.remove.ensures.updates.0

pub returns-in-None-clause-seen : goal.returns-in-None-clause-seen
returns-in-None-clause-seen c = removed_anew c.args.table.now.entries c.remove.new.self.entries c.args.position c.remove.ensures.updates.0
