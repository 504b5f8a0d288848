use Rattle.std.proofs.Common.{◌≡◌, true, ap}
use Rattle.position_core.specs.Kind.{same_kind}
use Rattle.delivery_machine.specs.Places.{KeptPlaces}
use Rattle.row_forms.specs.Changes.{sub_cells}
use Rattle.row_forms.specs.Forms.{sub_row}
use Rattle.row_forms.proofs.Differences.{goes, comes, becomes, stays}
use Rattle.row_forms.proofs.Subs.{sub_is, sub_same, kinds_seen}
use Rattle.row_forms.proofs.sub_difference.add.Goals as goal

pub returns-in_ok-row_of-in-Gone : goal.returns-in_ok-row_of-in-Gone
returns-in_ok-row_of-in-Gone c =
    let old = c.in-Gone.old.now in
    let row = c.in_ok-row_of-in-Gone in
    rw c.in-Gone.is
    (goes sub_cells sub_row sub_row c.args.difference.now c.goes.new.self old row.field-0 c.goes.result c.goes.ensures.gone c.goes.ensures.news (sub_is row.field-0 old row.ensures.name row.ensures.kind))

pub returns-in_ok-row_of-in-New : goal.returns-in_ok-row_of-in-New
returns-in_ok-row_of-in-New c =
    let new = c.in-New.new.now in
    let row = c.in_ok-row_of-in-New in
    rw c.in-New.is
    (comes sub_cells sub_row sub_row c.args.difference.now c.comes.new.self new row.field-0 c.comes.result c.comes.ensures.gone c.comes.ensures.news (sub_is row.field-0 new row.ensures.name row.ensures.kind))

pub returns-then-is : goal.returns-then-is
returns-then-is c =
    let old = c.in-Both.old.now in
    let new = c.in-Both.new.now in
    let names : old.name ≡ new.name = rw c.in-Both.is at c.requires in
    let kinds : same_kind old.kind new.kind ≡ true = kinds_seen _ _ _ _ _ (ap (λ (k : KeptPlaces). k.kind) c.old.view_is) (ap (λ (k : KeptPlaces). k.kind) c.new.view_is) c.is.ensures c.if-is.true in
    rw c.in-Both.is (stays sub_cells sub_row sub_row c.args.difference.now old new (sub_same old new names kinds))

pub returns-in_ok-row_of-in-Both-2 : goal.returns-in_ok-row_of-in-Both-2
returns-in_ok-row_of-in-Both-2 c =
    let old = c.in-Both.old.now in
    let new = c.in-Both.new.now in
    let first = c.in_ok-row_of-in-Both in
    let second = c.in_ok-row_of-in-Both-2 in
    rw c.in-Both.is
    (becomes sub_cells sub_row sub_row c.args.difference.now c.becomes.new.self old new first.field-0 second.field-0 c.becomes.result c.becomes.ensures.gone c.becomes.ensures.news
    (sub_is first.field-0 old first.ensures.name first.ensures.kind) (sub_is second.field-0 new second.ensures.name second.ensures.kind))
