use Rattle.std.proofs.Common.{ap, sym, ◌∙◌, arith}
use Rattle.std.proofs.lemmas.Result.{IfOk-weaker}
use Rattle.sqlite.specs.State.{State, HasCleanDisk}
use Rattle.sqlite.specs.Held.{state}
use Rattle.row_tables.specs.Pieces.{has_from}
use Rattle.row_tables.proofs.PieceLemmas.{below_others, from_others}
use Rattle.row_tables.proofs.entries.has_others.Goals as goal

pub returns-then-branch-clause-found : goal.returns-then-branch-clause-found
returns-then-branch-clause-found g c clean ready =
    below_others c.args.topic.now c.args.from c.args.end (state g.S.Store c.args.tx.now.conn.now).now.trees (sym (c.in_ok-has_below.ensures.found clean ready) ∙ c.if-branch.true)

pub returns-clause-found : goal.returns-clause-found
returns-clause-found g c clean =
    let first : State = state g.S.Store c.args.tx.now.conn.now in
    let mid : State = state g.S.Store c.has_below.new.tx.conn.now in
    let early : HasCleanDisk mid = omega (arith, c.has_from.ensures.survives.clean) in
    IfOk-weaker c.has_from.result _ _ (λ found is ready.
    let after = (c.in_ok-has_below.ensures.done early).does ready in
    is after.0 ∙ ap (has_from c.args.topic.now c.args.end) after.1 ∙ from_others c.args.topic.now c.args.from c.args.end first.now.trees (sym (c.in_ok-has_below.ensures.found early ready) ∙ c.if-branch.false)) (c.has_from.ensures.found clean)
