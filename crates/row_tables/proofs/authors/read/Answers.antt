use Rattle.std.proofs.lemmas.Result.{IfOk-weaker}
use Rattle.sqlite.specs.Held.{state}
use Rattle.row_tables.proofs.Texts.{select_author, select_author_is}
use Rattle.row_tables.proofs.CommitLemmas.{keeps_commit}
use Rattle.row_tables.proofs.ReadLemmas.{reads_author, shown_goes}
use Rattle.row_tables.proofs.authors.read.Goals as goal

pub returns-clause-done : goal.returns-clause-done
returns-clause-done g c clean =
    let ok = rw c.params-to_sql.ensures at (c.query_all.ensures.ok clean) in
    IfOk-weaker c.query_all.result _ _ (λ rows h. shown_goes select_author _ (state g.S.Store c.args.tx.now.conn.now) (state g.S.Store c.query_all.new.self.conn.now) rows.items select_author_is.2 h) ok

pub returns-clause-rows : goal.returns-clause-rows
returns-clause-rows g c clean =
    let ok = rw c.params-to_sql.ensures at (c.query_all.ensures.ok clean) in
    IfOk-weaker c.query_all.result _ _ (λ rows h ready. (reads_author c.args.topic.now (state g.S.Store c.args.tx.now.conn.now) (state g.S.Store c.query_all.new.self.conn.now) rows.items h ready).0) ok

pub returns-clause-ordered : goal.returns-clause-ordered
returns-clause-ordered g c clean =
    let ok = rw c.params-to_sql.ensures at (c.query_all.ensures.ok clean) in
    IfOk-weaker c.query_all.result _ _ (λ rows h ready. (reads_author c.args.topic.now (state g.S.Store c.args.tx.now.conn.now) (state g.S.Store c.query_all.new.self.conn.now) rows.items h ready).1) ok

pub returns-clause-kept : goal.returns-clause-kept
returns-clause-kept g c clean =
    keeps_commit (λ rows. rows.items) (state g.S.Store c.args.tx.now.conn.now) (state g.S.Store c.query_all.new.self.conn.now) _ _ c.query_all.result (c.query_all.ensures.ok clean) (c.query_all.ensures.err clean)
