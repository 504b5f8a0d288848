use Rattle.std.proofs.Common.{List, ℕ, IsTrue}
use Rattle.std.proofs.lemmas.Result.{IfOk-weaker}
use Rattle.sqlite.specs.Order.{Row}
use Rattle.sqlite.specs.State.{State, Shown}
use Rattle.sqlite.specs.Held.{state}
use Rattle.row_tables.proofs.CommitLemmas.{keeps_commit}
use Rattle.row_tables.proofs.ReadLemmas.{was_open}
use Rattle.row_store.proofs.counting.asked.Goals as goal

stays_running : (old new : State) (sql : List ℕ) (params : Row) (rows : List Row) → Shown sql params old new rows → IsTrue old.in_transaction → IsTrue new.in_transaction
unfolding Shown
stays_running old new sql params rows h run =
    let was = was_open old new sql h.0 _ rows h.0.returning h.2 in
    (was.2 run).0

pub returns-clause-kept : goal.returns-clause-kept
returns-clause-kept g c clean =
    keeps_commit (λ rows. rows.items) (state g.S.Store c.args.tx.now.conn.now) (state g.S.Store c.query_all.new.self.conn.now) _ _ c.query_all.result (c.query_all.ensures.ok clean) (c.query_all.ensures.err clean)

pub returns-clause-running : goal.returns-clause-running
returns-clause-running g c clean =
    IfOk-weaker c.query_all.result _ _ (λ rows h run. stays_running (state g.S.Store c.args.tx.now.conn.now) (state g.S.Store c.query_all.new.self.conn.now) _ _ rows.items h run) (c.query_all.ensures.ok clean)
