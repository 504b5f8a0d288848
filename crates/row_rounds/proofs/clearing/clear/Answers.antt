use Rattle.std.proofs.Common.{arith}
use Rattle.sqlite.specs.State.{HasCleanDisk}
use Rattle.sqlite.specs.Held.{state}
use Rattle.row_rounds.proofs.GoesLemmas.{then_ok}
use Rattle.row_rounds.proofs.TurnLemmas.{empties_by}
use Rattle.row_rounds.proofs.clearing.clear.Goals as goal

pub returns-clause-done : goal.returns-clause-done
returns-clause-done g c clean =
    let mid = state g.S.Store c.clear_log.new.tx.conn.now in
    let early : HasCleanDisk mid = omega (arith, c.clear_subscriptions.ensures.survives.clean) in
    then_ok c.clear_subscriptions.result _ _ _ (empties_by c.args.topic.now) (state g.S.Store c.args.tx.now.conn.now) mid (state g.S.Store c.clear_subscriptions.new.tx.conn.now) (c.in_ok-clear_log.ensures.done early) (c.clear_subscriptions.ensures.done clean)
