use Rattle.std.proofs.Common.{ap, ◌∙◌}
use Rattle.std.proofs.lemmas.Result.{IfOk-weaker}
use Rattle.sqlite.specs.Held.{state}
use Rattle.row_tables.specs.Pieces.{first_is_below}
use Rattle.row_tables.proofs.Texts.{select_first, select_first_is}
use Rattle.row_tables.proofs.CommitLemmas.{keeps_commit}
use Rattle.row_tables.proofs.ReadLemmas.{shown_goes}
use Rattle.row_tables.proofs.PartLemmas.{read_back}
use Rattle.row_tables.proofs.PieceLemmas.{reads_first}
use Rattle.row_tables.proofs.entries.has_below.Goals as goal

pub returns-in_err-first-clause-kept : goal.returns-in_err-first-clause-kept
returns-in_err-first-clause-kept g c clean =
    keeps_commit (λ rows. rows.items) (state g.S.Store c.args.tx.now.conn.now) (state g.S.Store c.query_all.new.self.conn.now) _ _ c.query_all.result (c.query_all.ensures.ok clean) (c.query_all.ensures.err clean)

pub returns-clause-done : goal.returns-clause-done
returns-clause-done g c clean =
    IfOk-weaker c.first_is_below.result _ _ (λ _ _. shown_goes select_first _ (state g.S.Store c.args.tx.now.conn.now) (state g.S.Store c.query_all.new.self.conn.now) c.in_ok-first.first.items select_first_is.2 (c.in_ok-first.ensures.ok clean)) c.first_is_below.ensures

pub returns-clause-kept : goal.returns-clause-kept
returns-clause-kept g c clean =
    keeps_commit (λ rows. rows.items) (state g.S.Store c.args.tx.now.conn.now) (state g.S.Store c.query_all.new.self.conn.now) _ _ c.query_all.result (c.query_all.ensures.ok clean) (c.query_all.ensures.err clean)

pub returns-clause-found : goal.returns-clause-found
returns-clause-found g c clean =
    let shown = rw c.params-to_sql.ensures at (c.in_ok-first.ensures.ok clean) in
    IfOk-weaker c.first_is_below.result _ _ (λ found is ready. is c.args.end (read_back c.in_ok-end.ensures.value c.in_ok-end.ensures.within) ∙ ap (first_is_below c.args.end) c.as_slice.ensures.value ∙ reads_first c.args.topic.now c.args.end (state g.S.Store c.args.tx.now.conn.now) (state g.S.Store c.query_all.new.self.conn.now) c.in_ok-first.first.items shown ready) c.first_is_below.ensures
