use Rattle.std.proofs.Common.{ap, sym, arith, ◌<◌, ◌∙◌}
use Rattle.std.proofs.Common.{BTreeMap}
use Rattle.position_core.specs.declared.position.Position.{Position}
use Rattle.pending_core.specs.declared.kept.Kept.{Kept}
use Rattle.pending_core.specs.Pending.{counted}
use Rattle.pending_core.specs.Kept.{kept_at, pending_in}
use Rattle.std.specs.Option.{is_some}
use Rattle.pending_core.proofs.Found.{count_set, counted_newly, on_ok_both}
use Rattle.pending_core.proofs.Tied.{tied_recounted}
use Rattle.pending_core.proofs.table.set_count.Goals as goal

pub returns-in-Some-clause-tied : goal.returns-in-Some-clause-tied
returns-in-Some-clause-tied c =
    let was = sym c.in-Some.ensures.value in
    let change = ((c.get_mut.follows.holds (record c.in-Some.kept.now { count = c.get-count.result })).3 (ap is_some was)).0 in
    tied_recounted c.args.table.now.entries _ c.args.slots.now c.args.position c.in-Some.kept.now c.get-count.result c.requires was (omega (arith, c.get-count.ensures.within.1)) change

pub returns-in-Some-clause-ok : goal.returns-in-Some-clause-ok
returns-in-Some-clause-ok c =
    let was = sym c.in-Some.ensures.value in
    let change = ((c.get_mut.follows.holds (record c.in-Some.kept.now { count = c.get-count.result })).3 (ap is_some was)).0 in
    rw (sym c.get-count.ensures.value) (count_set c.args.table.now.entries _ c.args.position c.in-Some.kept.now c.get-count.result (omega (arith, c.get-count.ensures.within.0)) was change)

pub returns-in-None-clause-ok : goal.returns-in-None-clause-ok
returns-in-None-clause-ok c =
    let same = c.get_mut.follows.holds-at-none in
    let none = ap (λ (m : BTreeMap Position Kept). kept_at m.entries c.args.position) same ∙ sym c.in-None.ensures.value in
    let above : 0 < c.get-count.result = omega (arith, c.get-count.ensures.within.0) in
    on_ok_both c.add.result
    (λ pending counts.
    counted_newly _ _ c.args.position c.get-count.result above none pending counts
    ∙ ap (λ (m : BTreeMap Position Kept). counted c.args.position c.get-count.result (pending_in m.entries)) same
    ∙ ap (λ n. counted c.args.position n (pending_in c.args.table.now.entries)) c.get-count.ensures.value) c.add.ensures.held c.add.ensures.counts
