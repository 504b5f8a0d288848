use Rattle.std.proofs.Common.{ap, sym, Some, ◌∙◌}
use Rattle.std.proofs.Common.{BTreeMap}
use Rattle.position_core.specs.declared.position.Position.{Position}
use Rattle.pending_core.specs.declared.kept.Kept.{Kept}
use Rattle.pending_core.specs.Pending.{holding}
use Rattle.pending_core.specs.Kept.{kept_at, pending_in}
use Rattle.std.specs.Option.{is_some}
use Rattle.std.proofs.lemmas.Option.{slice_get_within}
use Rattle.pending_core.proofs.Found.{held_anew, held_newly, on_ok_both}
use Rattle.pending_core.proofs.Tied.{tied_held}
use Rattle.pending_core.proofs.table.hold.Goals as goal

pub set_held-requires : goal.set_held-requires
set_held-requires c = slice_get_within _ _ _ (c.requires.placed c.args.position c.in-Some.kept.now (sym c.in-Some.ensures.value))

pub returns-in-Some-clause-tied : goal.returns-in-Some-clause-tied
returns-in-Some-clause-tied c =
    let was = sym c.in-Some.ensures.value in
    let change = ((c.get_mut.follows.holds c.set_held.new.kept).3 (ap is_some was)).0 in
    rw c.set_held.ensures.slots
    (tied_held c.args.table.now.entries _ c.args.slots.now c.args.position c.in-Some.kept.now c.set_held.new.kept (Some c.args.held) c.requires was c.set_held.ensures.kept change)

pub returns-in-Some-clause-ok : goal.returns-in-Some-clause-ok
returns-in-Some-clause-ok c =
    let was = sym c.in-Some.ensures.value in
    let change = ((c.get_mut.follows.holds c.set_held.new.kept).3 (ap is_some was)).0 in
    held_anew c.args.table.now.entries _ c.args.position c.in-Some.kept.now c.set_held.new.kept was change (Some c.args.held) c.set_held.ensures.kept

pub returns-in-None-clause-ok : goal.returns-in-None-clause-ok
returns-in-None-clause-ok c =
    let same = c.get_mut.follows.holds-at-none in
    let none = ap (λ (m : BTreeMap Position Kept). kept_at m.entries c.args.position) same ∙ sym c.in-None.ensures.value in
    on_ok_both c.add.result
    (λ pending counts.
    held_newly _ _ c.args.position c.args.held none pending counts
    ∙ ap (λ (m : BTreeMap Position Kept). holding c.args.position c.args.held (pending_in m.entries)) same) c.add.ensures.held c.add.ensures.counts
