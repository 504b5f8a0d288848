use Rattle.std.proofs.Common.{rules}
use Rattle.sqlite.specs.Held.{state}
use Rattle.row_rounds.proofs.GoesLemmas.{goes_weaker}
use Rattle.row_rounds.proofs.ManyLemmas.{writes_whole, writes_part}
use Rattle.row_rounds.proofs.saving.write_one.Goals as goal

pub returns-then-write-clause-done : goal.returns-then-write-clause-done
returns-then-write-clause-done g c clean =
    goes_weaker c.write_whole.result _ _ (writes_whole c.args.write.now (search rules)) (state g.S.Store c.args.tx.now.conn.now) (state g.S.Store c.write_whole.new.tx.conn.now) (c.write_whole.ensures.done clean)

pub returns-else-write-clause-done : goal.returns-else-write-clause-done
returns-else-write-clause-done g c clean =
    goes_weaker c.write_change.result _ _ (writes_part c.args.write.now (search rules)) (state g.S.Store c.args.tx.now.conn.now) (state g.S.Store c.write_change.new.tx.conn.now) (c.write_change.ensures.done clean)
