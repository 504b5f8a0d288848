use Rattle.sqlite.specs.Held.{state}
use Rattle.row_schema.proofs.CrashLemmas.{crash_first, crash_both}
use Rattle.row_schema.proofs.raising.from_version_1.Goals as goal

pub returns-in_err-to_version_2-clause-crash : goal.returns-in_err-to_version_2-clause-crash
returns-in_err-to_version_2-clause-crash g c = crash_first (state g.S.Store c.args.conn.now) (state g.S.Store c.to_version_2.new.conn) c.to_version_2.ensures.crash

pub returns-clause-crash : goal.returns-clause-crash
returns-clause-crash g c =
    crash_both (state g.S.Store c.args.conn.now) (state g.S.Store c.to_version_2.new.conn) (state g.S.Store c.to_version_3.new.conn) c.to_version_2.ensures.crash
    (λ early. (c.in_ok-to_version_2.ensures.open early).0) (λ early was. (c.in_ok-to_version_2.ensures.raised early was).0) c.to_version_3.ensures.crash
