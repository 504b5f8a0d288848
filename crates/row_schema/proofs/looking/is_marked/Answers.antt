use Rattle.std.proofs.Common.{◌≡◌, ℤ, List, [], ◌∷◌, pos, Ok, sym, ap, ◌∙◌}
use Rattle.sqlite.specs.Order.{Row}
use Rattle.sqlite.specs.declared.types.Value.TheVariants.{Int as Number}
use Rattle.sqlite.specs.Held.{state}
use Rattle.row_tables.proofs.CommitLemmas.{keeps_commit, shown_open}
use Rattle.row_tables.proofs.PartLemmas.{read_back}
use Rattle.row_schema.proofs.VersionLemmas.{is_small, marked, all_read}
use Rattle.row_schema.proofs.looking.is_marked.Goals as goal

-- the row of a mark, by its number
as_mark : {n m : ℤ} → n ≡ m → (Number (pos 1) ∷ Number n ∷ []) ∷ [] ≡ (Number (pos 1) ∷ Number m ∷ []) ∷ []
as_mark same = ap (λ (n : ℤ). (Number (pos 1) ∷ Number n ∷ []) ∷ []) same

pub returns-clause-marked : goal.returns-clause-marked
returns-clause-marked g c clean told has =
    marked c.args.version (state g.S.Store c.args.tx.now.conn.now) (state g.S.Store c.query_all.new.self.conn.now) c.in_ok-rows.rows.items (c.in_ok-rows.ensures.ok clean) (sym c.deref.ensures.value ∙ c.is_only_mark.ensures.0 told ∙ as_mark (read_back c.number.ensures (is_small c.args.version))) has

pub returns-clause-all_read : goal.returns-clause-all_read
returns-clause-all_read g c clean has mark =
    let shown = all_read c.args.version (state g.S.Store c.args.tx.now.conn.now) (state g.S.Store c.query_all.new.self.conn.now) c.in_ok-rows.rows.items (c.in_ok-rows.ensures.ok clean) has mark in
    c.is_only_mark.ensures.1 (c.deref.ensures.value ∙ shown ∙ sym (as_mark (read_back c.number.ensures (is_small c.args.version))))

pub returns-clause-open : goal.returns-clause-open
returns-clause-open g c clean =
    shown_open (λ (rows : List Row). rows) (state g.S.Store c.args.tx.now.conn.now) (state g.S.Store c.query_all.new.self.conn.now) _ _ (Ok c.in_ok-rows.rows.items) (c.in_ok-rows.ensures.ok clean)

pub returns-in_err-rows-clause-kept : goal.returns-in_err-rows-clause-kept
returns-in_err-rows-clause-kept g c clean =
    keeps_commit (λ rows. rows.items) (state g.S.Store c.args.tx.now.conn.now) (state g.S.Store c.query_all.new.self.conn.now) _ _ c.query_all.result (c.query_all.ensures.ok clean) (c.query_all.ensures.err clean)

pub returns-clause-kept : goal.returns-clause-kept
returns-clause-kept g c clean =
    keeps_commit (λ rows. rows.items) (state g.S.Store c.args.tx.now.conn.now) (state g.S.Store c.query_all.new.self.conn.now) _ _ c.query_all.result (c.query_all.ensures.ok clean) (c.query_all.ensures.err clean)
