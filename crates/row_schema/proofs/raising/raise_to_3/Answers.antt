use Rattle.std.proofs.Common.{arith}
use Rattle.std.proofs.lemmas.Result.{on_ok_weaker}
use Rattle.sqlite.specs.State.{HasCleanDisk}
use Rattle.sqlite.specs.Held.{state}
use Rattle.row_schema.proofs.UpgradeLemmas.{raises_3}
use Rattle.row_schema.proofs.raising.raise_to_3.Goals as goal

pub returns-clause-done : goal.returns-clause-done
returns-clause-done g c clean =
    let start = state g.S.Store c.args.tx.now.conn.now in
    let one = state g.S.Store c.define_authors.new.tx.conn.now in
    let two = state g.S.Store c.define_retentions.new.tx.conn.now in
    let last = state g.S.Store c.mark_version_3.new.tx.conn.now in
    let late : HasCleanDisk two = omega (arith, c.mark_version_3.ensures.survives.clean) in
    let early : HasCleanDisk one = omega (arith, late, c.define_retentions.ensures.survives.clean) in
    on_ok_weaker c.mark_version_3.result (λ marked. raises_3 start one two last (c.in_ok-define_authors.ensures.done early) (c.in_ok-define_retentions.ensures.done late) marked) (c.mark_version_3.ensures.done clean)
