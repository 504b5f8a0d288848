use Rattle.row_forms.specs.Changes.{ack_cells}
use Rattle.row_forms.specs.Forms.{ack_row}
use Rattle.row_forms.proofs.Differences.{goes, comes, becomes, stays}
use Rattle.row_forms.proofs.Acks.{run_is, run_same}
use Rattle.row_forms.proofs.ack_difference.add_run.Goals as goal

pub returns-in_ok-row_of-in-Gone : goal.returns-in_ok-row_of-in-Gone
returns-in_ok-row_of-in-Gone c =
    let sub = c.args.sub.now in
    let gone = c.args.gone in
    let row = c.in_ok-row_of-in-Gone in
    rw c.in-Gone.is
    (goes ack_cells (λ topic. ack_row topic sub gone.was) (λ topic. ack_row topic sub gone.now) c.args.difference.now c.goes.new.self c.in-Gone.old row.field-0 c.goes.result c.goes.ensures.gone c.goes.ensures.news
    (run_is row.field-0 sub gone.was c.in-Gone.old row.ensures.sub row.ensures.first row.ensures.last))

pub returns-in_ok-row_of-in-New : goal.returns-in_ok-row_of-in-New
returns-in_ok-row_of-in-New c =
    let sub = c.args.sub.now in
    let gone = c.args.gone in
    let row = c.in_ok-row_of-in-New in
    rw c.in-New.is
    (comes ack_cells (λ topic. ack_row topic sub gone.was) (λ topic. ack_row topic sub gone.now) c.args.difference.now c.comes.new.self c.in-New.new row.field-0 c.comes.result c.comes.ensures.gone c.comes.ensures.news
    (run_is row.field-0 sub gone.now c.in-New.new row.ensures.sub row.ensures.first row.ensures.last))

pub returns-then-is_same : goal.returns-then-is_same
returns-then-is_same c =
    let sub = c.args.sub.now in
    let gone = c.args.gone in
    rw c.in-Both.is
    (stays ack_cells (λ topic. ack_row topic sub gone.was) (λ topic. ack_row topic sub gone.now) c.args.difference.now c.in-Both.old c.in-Both.new
    (run_same sub gone.was gone.now c.in-Both.old c.in-Both.new (c.is_same.ensures.first c.if-is_same.true) (c.is_same.ensures.last c.if-is_same.true)))

pub returns-in_ok-new-in-Both : goal.returns-in_ok-new-in-Both
returns-in_ok-new-in-Both c =
    let sub = c.args.sub.now in
    let gone = c.args.gone in
    let first = c.in_ok-old-in-Both in
    let second = c.in_ok-new-in-Both in
    rw c.in-Both.is
    (becomes ack_cells (λ topic. ack_row topic sub gone.was) (λ topic. ack_row topic sub gone.now) c.args.difference.now c.becomes.new.self c.in-Both.old c.in-Both.new first.old second.new c.becomes.result c.becomes.ensures.gone c.becomes.ensures.news
    (run_is first.old sub gone.was c.in-Both.old first.ensures.sub first.ensures.first first.ensures.last) (run_is second.new sub gone.now c.in-Both.new second.ensures.sub second.ensures.first second.ensures.last))
