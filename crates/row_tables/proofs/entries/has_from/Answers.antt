use Rattle.std.proofs.Common.{ap, not, sym, ◌∙◌}
use Rattle.sqlite.specs.Held.{state}
use Rattle.row_tables.proofs.Texts.{select_from, select_from_is}
use Rattle.row_tables.proofs.CommitLemmas.{keeps_commit}
use Rattle.row_tables.proofs.ReadLemmas.{shown_goes}
use Rattle.row_tables.proofs.PartLemmas.{read_back}
use Rattle.row_tables.proofs.PieceLemmas.{reads_from}
use Rattle.row_tables.proofs.entries.has_from.Goals as goal

pub returns-in_err-others-clause-kept : goal.returns-in_err-others-clause-kept
returns-in_err-others-clause-kept g c clean =
    keeps_commit (λ rows. rows.items) (state g.S.Store c.args.tx.now.conn.now) (state g.S.Store c.query_all.new.self.conn.now) _ _ c.query_all.result (c.query_all.ensures.ok clean) (c.query_all.ensures.err clean)

pub returns-clause-done : goal.returns-clause-done
returns-clause-done g c clean = shown_goes select_from _ (state g.S.Store c.args.tx.now.conn.now) (state g.S.Store c.query_all.new.self.conn.now) c.in_ok-others.others.items select_from_is.2 (c.in_ok-others.ensures.ok clean)

pub returns-clause-kept : goal.returns-clause-kept
returns-clause-kept g c clean =
    keeps_commit (λ rows. rows.items) (state g.S.Store c.args.tx.now.conn.now) (state g.S.Store c.query_all.new.self.conn.now) _ _ c.query_all.result (c.query_all.ensures.ok clean) (c.query_all.ensures.err clean)

pub returns-clause-found : goal.returns-clause-found
returns-clause-found g c clean ready =
    let shown = rw (c.params-to_sql.ensures, c.params-to_sql-2.ensures, read_back c.in_ok-end.ensures.value c.in_ok-end.ensures.within) at (c.in_ok-others.ensures.ok clean) in
    ap not c.is_empty.ensures ∙ reads_from c.args.topic.now c.args.end (state g.S.Store c.args.tx.now.conn.now) (state g.S.Store c.query_all.new.self.conn.now) c.in_ok-others.others.items shown ready _ (sym c.in_ok-others.others.ok.0)
