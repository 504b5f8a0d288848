use Rattle.std.proofs.Common.{arith}
use Rattle.std.proofs.lemmas.Result.{on_ok_weaker}
use Rattle.sqlite.specs.State.{HasCleanDisk}
use Rattle.sqlite.specs.Held.{state}
use Rattle.row_schema.proofs.UpgradeLemmas.{raises_2}
use Rattle.row_schema.proofs.raising.raise_to_2.Goals as goal

pub returns-clause-done : goal.returns-clause-done
returns-clause-done g c clean =
    let start = state g.S.Store c.args.tx.now.conn.now in
    let mid = state g.S.Store c.define_counts.new.tx.conn.now in
    let last = state g.S.Store c.mark_version_2.new.tx.conn.now in
    let early : HasCleanDisk mid = omega (arith, c.mark_version_2.ensures.survives.clean) in
    on_ok_weaker c.mark_version_2.result (λ marked. raises_2 start mid last (c.in_ok-define_counts.ensures.done early) marked) (c.mark_version_2.ensures.done clean)
