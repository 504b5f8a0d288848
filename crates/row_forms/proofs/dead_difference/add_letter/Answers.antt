use Rattle.std.proofs.Common.{List}
use Rattle.row_forms.specs.Places.{seen}
use Rattle.row_forms.specs.Changes.{dead_cells}
use Rattle.row_forms.specs.Forms.{Span, dead_row}
use Rattle.row_forms.proofs.Deads.{letter_is, letter_same}
use Rattle.row_forms.proofs.Differences.{goes, comes, becomes, stays}
use Rattle.row_forms.proofs.dead_difference.add_letter.Goals as goal

pub returns-in_ok-row_of-in-Gone : goal.returns-in_ok-row_of-in-Gone
returns-in_ok-row_of-in-Gone c =
    let sub = c.args.sub.now in
    let was : Span = seen c.args.logs.was in
    let log : Span = seen c.args.logs.now in
    let row = c.in_ok-row_of-in-Gone in
    rw c.in-Gone.is
    (goes dead_cells (λ topic. dead_row topic sub was) (λ topic. dead_row topic sub log) c.args.difference.now c.goes.new.self c.in-Gone.old.now row.field-0 c.goes.result c.goes.ensures.gone c.goes.ensures.news
    (letter_is row.field-0 sub was c.in-Gone.old.now row.ensures.sub row.ensures.ordinal row.ensures.place row.ensures.target))

pub returns-in_ok-row_of-in-New : goal.returns-in_ok-row_of-in-New
returns-in_ok-row_of-in-New c =
    let sub = c.args.sub.now in
    let was : Span = seen c.args.logs.was in
    let log : Span = seen c.args.logs.now in
    let row = c.in_ok-row_of-in-New in
    rw c.in-New.is
    (comes dead_cells (λ topic. dead_row topic sub was) (λ topic. dead_row topic sub log) c.args.difference.now c.comes.new.self c.in-New.new.now row.field-0 c.comes.result c.comes.ensures.gone c.comes.ensures.news
    (letter_is row.field-0 sub log c.in-New.new.now row.ensures.sub row.ensures.ordinal row.ensures.place row.ensures.target))

pub returns-then-is_same : goal.returns-then-is_same
returns-then-is_same c =
    let sub = c.args.sub.now in
    let was : Span = seen c.args.logs.was in
    let log : Span = seen c.args.logs.now in
    rw c.in-Both.is
    (stays dead_cells (λ topic. dead_row topic sub was) (λ topic. dead_row topic sub log) c.args.difference.now c.in-Both.old.now c.in-Both.new.now
    (letter_same sub was log c.in-Both.old.now c.in-Both.new.now (c.is_same.ensures c.if-is_same.true)))

pub returns-in_ok-new-in-Both : goal.returns-in_ok-new-in-Both
returns-in_ok-new-in-Both c =
    let sub = c.args.sub.now in
    let was : Span = seen c.args.logs.was in
    let log : Span = seen c.args.logs.now in
    let first = c.in_ok-old-in-Both in
    let second = c.in_ok-new-in-Both in
    rw c.in-Both.is
    (becomes dead_cells (λ topic. dead_row topic sub was) (λ topic. dead_row topic sub log) c.args.difference.now c.becomes.new.self c.in-Both.old.now c.in-Both.new.now first.old second.new c.becomes.result c.becomes.ensures.gone c.becomes.ensures.news
    (letter_is first.old sub was c.in-Both.old.now first.ensures.sub first.ensures.ordinal first.ensures.place first.ensures.target)
    (letter_is second.new sub log c.in-Both.new.now second.ensures.sub second.ensures.ordinal second.ensures.place second.ensures.target))
