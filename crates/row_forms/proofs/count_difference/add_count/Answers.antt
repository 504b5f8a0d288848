use Rattle.std.proofs.Common.{◌≡◌, List, [], sym, ◌∙◌}
use Rattle.std.proofs.lemmas.List.Elements.{All-head}
use Rattle.row_forms.specs.Places.{seen}
use Rattle.row_forms.specs.Changes.{count_cells}
use Rattle.row_forms.specs.Forms.{Span, count_row}
use Rattle.row_forms.specs.Parts.{IsCountedIn}
use Rattle.row_forms.proofs.Counts.{count_is, count_same}
use Rattle.row_forms.proofs.Differences.{goes, comes, becomes, stays}
use Rattle.row_forms.proofs.count_difference.add_count.Goals as goal

pub returns-in_ok-row_of-in-Gone : goal.returns-in_ok-row_of-in-Gone
returns-in_ok-row_of-in-Gone c =
    let sub = c.args.sub.now in
    let was : Span = seen c.args.logs.was in
    let log : Span = seen c.args.logs.now in
    let old = c.in-Gone.old.now in
    let row = c.in_ok-row_of-in-Gone in
    rw c.in-Gone.is
    (goes count_cells (λ topic. count_row topic sub was) (λ topic. count_row topic sub log) c.args.difference.now c.goes.new.self (old.position, old.times) row.field-0 c.goes.result c.goes.ensures.gone c.goes.ensures.news
    (count_is row.field-0 sub was (old.position, old.times) row.ensures.sub row.ensures.place row.ensures.times))

pub returns-in_ok-row_of-in-New : goal.returns-in_ok-row_of-in-New
returns-in_ok-row_of-in-New c =
    let sub = c.args.sub.now in
    let was : Span = seen c.args.logs.was in
    let log : Span = seen c.args.logs.now in
    let new = c.in-New.new.now in
    let row = c.in_ok-row_of-in-New in
    rw c.in-New.is
    (comes count_cells (λ topic. count_row topic sub was) (λ topic. count_row topic sub log) c.args.difference.now c.comes.new.self (new.position, new.times) row.field-0 c.comes.result c.comes.ensures.gone c.comes.ensures.news
    (count_is row.field-0 sub log (new.position, new.times) row.ensures.sub row.ensures.place row.ensures.times))

pub returns-then-get : goal.returns-then-get
returns-then-get c =
    let sub = c.args.sub.now in
    let was : Span = seen c.args.logs.was in
    let log : Span = seen c.args.logs.now in
    let old = c.in-Both.old.now in
    let new = c.in-Both.new.now in
    let positions : old.position ≡ new.position = rw c.in-Both.is at c.requires.key in
    let there : IsCountedIn was.log (old.position, old.times) = All-head (IsCountedIn was.log) (old.position, old.times) [] (rw c.in-Both.is at c.requires.there) in
    let here : IsCountedIn log.log (new.position, new.times) = All-head (IsCountedIn log.log) (new.position, new.times) [] (rw c.in-Both.is at c.requires.here) in
    let times : old.times ≡ new.times = sym c.get.ensures.value ∙ c.if-get.true ∙ c.get-in-Both.ensures.value in
    rw c.in-Both.is
    (stays count_cells (λ topic. count_row topic sub was) (λ topic. count_row topic sub log) c.args.difference.now (old.position, old.times) (new.position, new.times)
    (count_same sub was log (old.position, old.times) (new.position, new.times) c.requires.was c.requires.now c.requires.later there here positions times))

pub returns-in_ok-new-in-Both : goal.returns-in_ok-new-in-Both
returns-in_ok-new-in-Both c =
    let sub = c.args.sub.now in
    let was : Span = seen c.args.logs.was in
    let log : Span = seen c.args.logs.now in
    let old = c.in-Both.old.now in
    let new = c.in-Both.new.now in
    let first = c.in_ok-old-in-Both in
    let second = c.in_ok-new-in-Both in
    rw c.in-Both.is
    (becomes count_cells (λ topic. count_row topic sub was) (λ topic. count_row topic sub log) c.args.difference.now c.becomes.new.self (old.position, old.times) (new.position, new.times) first.old second.new c.becomes.result c.becomes.ensures.gone c.becomes.ensures.news
    (count_is first.old sub was (old.position, old.times) first.ensures.sub first.ensures.place first.ensures.times)
    (count_is second.new sub log (new.position, new.times) second.ensures.sub second.ensures.place second.ensures.times))
