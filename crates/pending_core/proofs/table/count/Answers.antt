use Rattle.std.proofs.Common.{ap, sym, ◌∙◌}
use Rattle.std.specs.Option.{is_some, option_and_then}
use Rattle.std.specs.BTreeMap.{BTreeMap}
use Rattle.position_core.specs.declared.position.Position.{Position}
use Rattle.pending_core.specs.declared.kept.Kept.{Kept}
use Rattle.pending_core.specs.Kept.{pending_in}
use Rattle.pending_core.proofs.Found.{pending_at, count_anew, uncounted}
use Rattle.pending_core.proofs.Tied.{tied_counted}
use Rattle.pending_core.proofs.table.count.Goals as goal

pub returns-in-Some-clause-tied : goal.returns-in-Some-clause-tied
returns-in-Some-clause-tied c = λ slots tied.
    let was = sym c.in-Some.ensures.value in
    let k = c.counted_once_more.result in
    tied_counted c.args.table.now.entries _ slots c.args.position c.in-Some.kept.now k tied was c.counted_once_more.ensures ((c.get_mut.follows.holds k).3 (ap is_some was)).0

pub returns-in-Some-clause-seen : goal.returns-in-Some-clause-seen
returns-in-Some-clause-seen c =
    let was = sym c.in-Some.ensures.value in
    let k = c.counted_once_more.result in
    count_anew c.args.table.now.entries _ c.args.position c.in-Some.kept.now k was ((c.get_mut.follows.holds k).3 (ap is_some was)).0 c.counted_once_more.ensures

pub returns-in-None-clause-seen : goal.returns-in-None-clause-seen
returns-in-None-clause-seen c =
    ap (λ (m : BTreeMap Position Kept). pending_in m.entries) c.get_mut.follows.holds-at-none
    ∙ uncounted (pending_in c.args.table.now.entries) c.args.position (ap is_some (pending_at c.args.table.now.entries c.args.position ∙ ap (option_and_then (λ kept. kept.held)) (sym c.in-None.ensures.value)))
