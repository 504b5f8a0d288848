use Rattle.std.proofs.Common.{ℕ, List, [], ◌++◌, refl}
use Rattle.row_forms.specs.Sides.{new_of, old_of}
use Rattle.row_forms.proofs.Acks.{no_run_more, runs-append}
use Rattle.row_forms.proofs.Subs.{passed, nothing_left}
use Rattle.row_forms.proofs.ack_difference.add_runs.Goals as goal

pub sides-init : goal.sides-init
sides-init c = ([], [], refl, refl, no_run_more c.args.sub.now c.args.runs.gone.was c.args.runs.gone.now c.args.difference.now)

pub sides-preserved : goal.sides-preserved
sides-preserved c =
    let h = c.sides.invariant in
    let olds : List (ℕ × ℕ) = old_of (λ run. run) c.in-Some.side in
    let news : List (ℕ × ℕ) = new_of (λ run. run) c.in-Some.side in (
      h.0 ++ olds,
      h.1 ++ news,
      passed _ h.0 _ _ _ h.2 c.in-Some.ensures.lefts,
      passed _ h.1 _ _ _ h.3 c.in-Some.ensures.rights,
      runs-append c.args.sub.now c.args.runs.gone.was c.args.runs.gone.now c.args.difference.now c.sides.difference c.add_run.new.difference h.0 h.1 olds news h.4 c.in_ok-add_run.ensures,
    )

pub returns : goal.returns
returns c =
    let h = c.sides.invariant in
    rw (← nothing_left _ h.0 _ h.2 c.in_default.ensures.no_lefts, ← nothing_left _ h.1 _ h.3 c.in_default.ensures.no_rights) h.4
