use Rattle.std.proofs.Common.{◌≡◌, ◌+◌, ◌∷◌, ap, sym, true, true≢false, rules, ◌∙◌}
use Rattle.sqlite.specs.declared.types.Value.TheVariants.{Text as Words}
use Rattle.sqlite.specs.Order.{column}
use Rattle.std.specs.FinSet as set
use Rattle.ack_ranges.specs.Ranges.{MayFollow, from_to}
use Rattle.row_reading.proofs.NextRuns.{followed, next_run}
use Rattle.row_reading.proofs.Runs.{below_more, no_runs_yet, nothing_below, runs_more}
use Rattle.row_reading.proofs.ack_rows.runs_in.Goals as goal

pub runs-init : goal.runs-init
runs-init c = record {
  runs = no_runs_yet c.args.gone c.args.name.now c.new-places.result c.args.rows.now c.new-places.ensures;
  below = nothing_below c.new-places.result c.args.count c.new-places.ensures;
}

pub runs-preserved : goal.runs-preserved
runs-preserved c =
    let h = c.runs.invariant in
    let first = c.in-Some-run_in.run'.first in
    let last = c.in-Some-run_in.run'.last in
    let holds : c.in_ok-push_range.field-0 ≡ true = c.if-not-branch.false in
    let may : MayFollow c.runs.places first (last + 1) = c.in_ok-push_range.ensures.pushed.0 holds in
    let more : c.push_range.new.self ≡ set.union c.runs.places (from_to first (last + 1)) = rw holds at c.in_ok-push_range.ensures.ok in
    let next : c.runs.rest.now ≡ c.in-Some.row.now ∷ c.in-Some.after.now = search rules in
    record {
      runs = runs_more c.args.gone c.args.name.now c.runs.places c.push_range.new.self c.args.rows.now c.runs.rest.now c.in-Some.after.now c.in-Some.row.now first last h.runs next c.in-Some-run_in.ensures.shown may more;
      below = below_more c.runs.places c.push_range.new.self c.args.count first last h.below c.in-Some-run_in.ensures.within more;
    }

pub returns-in_default-run_in-clause-all_read : goal.returns-in_default-run_in-clause-all_read
returns-in_default-run_in-clause-all_read c =
    λ places others whole below none.
    let split : c.runs.rest.now ≡ c.in-Some.row.now ∷ c.in-Some.after.now = search rules in
    let named : column c.in-Some.row.now 0 ≡ Words c.args.name.now = c.is_text.ensures.shown (search rules) ∙ ap Words c.as_str.ensures.value in
    let n = next_run c.args.gone c.args.name.now c.args.count c.runs.places places c.args.rows.now c.runs.rest.now c.in-Some.after.now others c.in-Some.row.now c.runs.invariant.runs split named whole below none in
    c.in_default-run_in.ensures.all_read n.0 n.1 n.2.shown n.2.below

pub returns-then-not-branch-clause-all_read : goal.returns-then-not-branch-clause-all_read
returns-then-not-branch-clause-all_read c =
    λ places others whole below none.
    let split : c.runs.rest.now ≡ c.in-Some.row.now ∷ c.in-Some.after.now = search rules in
    let named : column c.in-Some.row.now 0 ≡ Words c.args.name.now = c.is_text.ensures.shown (search rules) ∙ ap Words c.as_str.ensures.value in
    let n = next_run c.args.gone c.args.name.now c.args.count c.runs.places places c.args.rows.now c.runs.rest.now c.in-Some.after.now others c.in-Some.row.now c.runs.invariant.runs split named whole below none in
    let run = c.in-Some-run_in.run' in
    let may = followed c.args.gone c.args.name.now c.runs.places c.in-Some.row.now n.0 n.1 run.first run.last n.2.shown c.in-Some-run_in.ensures.shown n.2.may in
    let yes : c.in_ok-push_range.field-0 ≡ true = c.in_ok-push_range.ensures.pushed.1 may in
    true≢false (sym yes ∙ c.if-not-branch.true)
