use Rattle.sqlite.specs.Held.{state}
use Rattle.row_schema.proofs.CrashLemmas.{crash_second}
use Rattle.row_schema.proofs.raising.from_version_2.Goals as goal

pub returns-clause-crash : goal.returns-clause-crash
returns-clause-crash g c = crash_second (state g.S.Store c.args.conn.now) (state g.S.Store c.to_version_3.new.conn) c.to_version_3.ensures.crash
