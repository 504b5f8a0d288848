use Rattle.std.proofs.Common.{ap}
use Rattle.row_forms.specs.Changes.{author_cells}
use Rattle.row_forms.specs.Forms.{author_row}
use Rattle.row_forms.proofs.Authors.{author_is}
use Rattle.row_forms.proofs.Differences.{goes, comes, becomes, stays}
use Rattle.row_forms.proofs.author_difference.add.Goals as goal

pub returns-in_ok-clone-in-Gone : goal.returns-in_ok-clone-in-Gone
returns-in_ok-clone-in-Gone c =
    let old = c.in-Gone.old.now in
    let row = c.in_ok-clone-in-Gone in
    rw c.in-Gone.is
    (goes author_cells author_row author_row c.args.difference.now c.goes.new.self old row.field-0 c.goes.result c.goes.ensures.gone c.goes.ensures.news (author_is row.field-0 old row.ensures.cases))

pub returns-in_ok-clone-in-New : goal.returns-in_ok-clone-in-New
returns-in_ok-clone-in-New c =
    let new = c.in-New.new.now in
    let row = c.in_ok-clone-in-New in
    rw c.in-New.is
    (comes author_cells author_row author_row c.args.difference.now c.comes.new.self new row.field-0 c.comes.result c.comes.ensures.gone c.comes.ensures.news (author_is row.field-0 new row.ensures.cases))

pub returns-then-is_same : goal.returns-then-is_same
returns-then-is_same c =
    let old = c.in-Both.old.now in
    let new = c.in-Both.new.now in
    rw c.in-Both.is (stays author_cells author_row author_row c.args.difference.now old new (λ topic. ap (author_row topic) (c.is_same.ensures c.if-is_same.true)))

pub returns-in_ok-clone-in-Both-2 : goal.returns-in_ok-clone-in-Both-2
returns-in_ok-clone-in-Both-2 c =
    let old = c.in-Both.old.now in
    let new = c.in-Both.new.now in
    let first = c.in_ok-clone-in-Both in
    let second = c.in_ok-clone-in-Both-2 in
    rw c.in-Both.is
    (becomes author_cells author_row author_row c.args.difference.now c.becomes.new.self old new first.field-0 second.field-0 c.becomes.result c.becomes.ensures.gone c.becomes.ensures.news
    (author_is first.field-0 old first.ensures.cases) (author_is second.field-0 new second.ensures.cases))
