use Rattle.std.proofs.Common.{map, arith}
use Rattle.sqlite.specs.State.{HasCleanDisk}
use Rattle.sqlite.specs.Held.{state}
use Rattle.row_rounds.proofs.GoesLemmas.{then_ok, takes_adds}
use Rattle.row_rounds.proofs.differences.write_rows.Goals as goal

pub returns-clause-done : goal.returns-clause-done
returns-clause-done g c clean =
    let mid = state g.S.Store c.remove_all.new.tx.conn.now in
    let early : HasCleanDisk mid = omega (arith, c.add_all.ensures.survives.clean) in
    then_ok c.add_all.result _ _ _ (takes_adds g.R.Listed.tree (map (g.R.Listed.cells c.args.topic.now) c.args.rows.now.gone.items) (map (g.R.Listed.cells c.args.topic.now) c.args.rows.now.news.items)) (state g.S.Store c.args.tx.now.conn.now) mid (state g.S.Store c.add_all.new.tx.conn.now)
    (rw c.deref.ensures.value at (c.in_ok-remove_all.ensures.done early)) (rw c.deref-2.ensures.value at (c.add_all.ensures.done clean))
