use Rattle.std.proofs.Common.{arith, rules}
use Rattle.sqlite.specs.State.{State, HasCleanDisk}
use Rattle.sqlite.specs.Held.{state}
use Rattle.row_schema.proofs.VersionLemmas.{foreign_as}
use Rattle.row_store.proofs.Taking.{rows_taken, crash_taken, left_refused}
use Rattle.row_store.proofs.keeper.Keeper.adopt.Goals as goal

pub returns-in-Ok-true-clause-rows : goal.returns-in-Ok-true-clause-rows
returns-in-Ok-true-clause-rows g c =
    let settled : State = state g.S.Store c.in-Ok.conn in
    rw c.keeper_over.ensures (λ clean.
    let early : HasCleanDisk settled = omega (arith, c.upgrade.ensures.crash.clean, clean) in
    rows_taken _ settled (c.in-Ok.ensures.same early) _ (c.in-Ok-true.ensures.upgraded clean (search rules)))

pub returns-in-Ok-true-clause-crash : goal.returns-in-Ok-true-clause-crash
returns-in-Ok-true-clause-crash g c =
    let settled : State = state g.S.Store c.in-Ok.conn in
    rw c.keeper_over.ensures (λ clean.
    let early : HasCleanDisk settled = omega (arith, c.upgrade.ensures.crash.clean, clean) in
    crash_taken _ settled (c.in-Ok.ensures.same early) _ (c.in-Ok.ensures.crash early) (c.in-Ok-true.ensures.upgraded clean (search rules)))

pub returns-in-Err-upgrade-clause-given_back : goal.returns-in-Err-upgrade-clause-given_back
returns-in-Err-upgrade-clause-given_back g c clean db left =
    let settled : State = state g.S.Store c.in-Ok.conn in
    let late : HasCleanDisk (state g.S.Store c.upgrade.new.conn) = c.given_back-in-Err-upgrade.ensures.clean clean in
    let early : HasCleanDisk settled = omega (arith, c.upgrade.ensures.crash.clean, late) in
    left_refused _ settled (c.in-Ok.ensures.same early) (state g.S.Store c.args.conn) (c.in-Ok.ensures.left early) db (c.upgrade.ensures.crash.crash late db (c.given_back-in-Err-upgrade.ensures.left db left))

pub returns-in-Ok-false-clause-foreign : goal.returns-in-Ok-false-clause-foreign
returns-in-Ok-false-clause-foreign g c _ clean was_open =
    let settled : State = state g.S.Store c.in-Ok.conn in
    let late : HasCleanDisk (state g.S.Store c.upgrade.new.conn) = c.given_back.ensures.clean clean in
    let early : HasCleanDisk settled = omega (arith, c.upgrade.ensures.crash.clean, late) in
    let shown = c.in-Ok.ensures.open early was_open in
    foreign_as settled.now (state g.S.Store c.args.conn).committed (c.in-Ok.ensures.schema early shown) (c.in-Ok.ensures.same early shown) (c.in-Ok-false.ensures.foreign late (search rules))
