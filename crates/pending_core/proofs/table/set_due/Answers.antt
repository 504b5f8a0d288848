use Rattle.std.proofs.Common.{ap, sym, ◌∙◌}
use Rattle.std.specs.Option.{is_some, option_and_then}
use Rattle.std.specs.BTreeMap.{BTreeMap}
use Rattle.std.proofs.lemmas.Option.{slice_get_within}
use Rattle.position_core.specs.declared.position.Position.{Position}
use Rattle.pending_core.specs.declared.kept.Kept.{Kept}
use Rattle.pending_core.specs.Kept.{pending_in}
use Rattle.pending_core.proofs.Found.{pending_at, due_anew, undelayed}
use Rattle.pending_core.proofs.Tied.{tied_held}
use Rattle.pending_core.proofs.table.set_due.Goals as goal

pub set_held-requires : goal.set_held-requires
set_held-requires c = slice_get_within _ _ _ (c.requires.placed c.args.position c.in-Some.kept.now (sym c.in-Some.ensures.value))

pub returns-in-Some-clause-tied : goal.returns-in-Some-clause-tied
returns-in-Some-clause-tied c =
    let was = sym c.in-Some.ensures.value in
    let change = ((c.get_mut.follows.holds c.set_held.new.kept).3 (ap is_some was)).0 in
    rw c.set_held.ensures.slots
    (tied_held c.args.table.now.entries _ c.args.slots.now c.args.position c.in-Some.kept.now c.set_held.new.kept _ c.requires was c.set_held.ensures.kept change)

pub returns-in-Some-clause-seen : goal.returns-in-Some-clause-seen
returns-in-Some-clause-seen c =
    let was = sym c.in-Some.ensures.value in
    let change = ((c.get_mut.follows.holds c.set_held.new.kept).3 (ap is_some was)).0 in
    let k = c.in-Some.kept.now in
    due_anew c.args.table.now.entries _ c.args.position k c.set_held.new.kept was change c.args.due (c.set_held.ensures.kept ∙ ap (λ o. let k' : Kept = record k { held = o } in k') c.held_until-held.ensures)

pub returns-in-None-clause-seen : goal.returns-in-None-clause-seen
returns-in-None-clause-seen c =
    ap (λ (m : BTreeMap Position Kept). pending_in m.entries) c.get_mut.follows.holds-at-none
    ∙ undelayed (pending_in c.args.table.now.entries) c.args.position c.args.due (pending_at c.args.table.now.entries c.args.position ∙ ap (option_and_then (λ kept. kept.held)) (sym c.in-None.ensures.value))
