use Rattle.std.proofs.Common.{◌+◌, drop, arith}
use Rattle.sqlite.specs.State.{HasCleanDisk}
use Rattle.sqlite.specs.Held.{state}
use Rattle.row_forms.specs.Cells.{ENTRY}
use Rattle.row_forms.specs.Forms.{topic_row, entry_rows}
use Rattle.row_tables.specs.Goes.{Adds}
use Rattle.row_rounds.specs.Rounds.{MayCut, MayWriteTopic}
use Rattle.row_rounds.proofs.GoesLemmas.{goes_then, then_ok, then_third}
use Rattle.row_rounds.proofs.messages.write.Goals as goal

pub returns-clause-done : goal.returns-clause-done
returns-clause-done g c clean =
    let first = state g.S.Store c.args.tx.now.conn.now in
    let mid = state g.S.Store c.write_topic.new.tx.conn.now in
    let cut = state g.S.Store c.cut_messages.new.tx.conn.now in
    let last = state g.S.Store c.add_messages.new.tx.conn.now in
    let late : HasCleanDisk cut = omega (arith, c.add_messages.ensures.survives.clean) in
    let early : HasCleanDisk mid = omega (arith, late, c.cut_messages.ensures.survives.clean) in
    then_ok c.add_messages.result _ _ _ (then_third (MayWriteTopic c.args.change.now.topic c.args.topic.now (topic_row c.args.kept.now)) (MayCut c.args.change.now.went c.args.topic.now c.args.kept.now.gone) (Adds ENTRY (entry_rows c.args.topic.now (c.args.kept.now.gone + c.args.change.now.from) (drop c.args.change.now.from c.args.kept.now.log)))) first cut last
    (goes_then _ _ _ (λ x y z p q. (y, p, q)) first mid cut (c.in_ok-write_topic.ensures.done early) (rw c.gone.ensures at (c.in_ok-cut_messages.ensures.done late))) (rw (c.gone-2.ensures, c.log.ensures.value) at (c.add_messages.ensures.done clean))
