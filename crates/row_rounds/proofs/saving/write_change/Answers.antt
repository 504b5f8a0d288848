use Rattle.std.proofs.Common.{arith}
use Rattle.sqlite.specs.State.{HasCleanDisk}
use Rattle.sqlite.specs.Held.{state}
use Rattle.row_rounds.proofs.GoesLemmas.{then_ok}
use Rattle.row_rounds.proofs.TurnLemmas.{changes_by}
use Rattle.row_rounds.proofs.saving.write_change.Goals as goal

pub returns-clause-done : goal.returns-clause-done
returns-clause-done g c clean =
    let mid = state g.S.Store c.write.new.tx.conn.now in
    let early : HasCleanDisk mid = omega (arith, c.write-2.ensures.survives.clean) in
    then_ok c.write-2.result _ _ _ (changes_by c.args.kept.now c.args.change.now) (state g.S.Store c.args.tx.now.conn.now) mid (state g.S.Store c.write-2.new.tx.conn.now) (rw c.requires at (c.in_ok-write.ensures.done early)) (rw c.requires at (c.write-2.ensures.done clean))
