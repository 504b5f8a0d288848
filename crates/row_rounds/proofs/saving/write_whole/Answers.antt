use Rattle.std.proofs.Common.{◌≡◌, ◌∙◌, subst, arith}
use Rattle.sqlite.specs.State.{HasCleanDisk}
use Rattle.sqlite.specs.Held.{state}
use Rattle.row_tables.specs.Goes.{Goes}
use Rattle.row_rounds.specs.Rounds.{Empties, name_of}
use Rattle.row_rounds.proofs.GoesLemmas.{then_ok}
use Rattle.row_rounds.proofs.saving.write_whole.Goals as goal

pub returns-clause-done : goal.returns-clause-done
returns-clause-done g c clean =
    let first = state g.S.Store c.args.tx.now.conn.now in
    let mid = state g.S.Store c.clear.new.tx.conn.now in
    let last = state g.S.Store c.write_change.new.tx.conn.now in
    let early : HasCleanDisk mid = omega (arith, c.write_change.ensures.survives.clean) in
    let named : c.as_str-topic.result.now ≡ name_of c.args.write.now = c.as_str-topic.ensures.value ∙ c.requires in
    then_ok c.write_change.result _ _ _ (λ x y z p q. (y, p, q)) first mid last (subst (λ n. Goes (Empties n) first mid) named (c.in_ok-clear.ensures.done early)) (c.write_change.ensures.done clean)
