use Rattle.std.proofs.Common.{◌≡◌, not, IsTrue, refl, subst, sym, ap, ◌∙◌}
use Rattle.sqlite.specs.Effect.{Database}
use Rattle.sqlite.specs.Held.{state}
use Rattle.stored_cell.specs.Noted.{all_rows}
use Rattle.row_store.proofs.Storing.{shown_is}
use Rattle.row_store.proofs.keeper.Keeper.note_rows.Goals as goal

pub returns-in-Some-clause-rows : goal.returns-in-Some-clause-rows
returns-in-Some-clause-rows g c = λ is_clean.
    let s = state g.S.Store c.self.inside.conn in
    let shown = shown_is s (sym c.in-Some.ensures.clean ∙ is_clean) in
    let runs_alone = subst IsTrue (sym (c.is_autocommit.ensures.value ∙ ap not c.self.invariant.0.autocommit)) refl in
    let settled : s.now ≡ s.committed = c.is_autocommit.ensures.settled runs_alone shown.1 in
    rw (← c.self.view_is) (shown.0, shown.1, c.in-Some.ensures.rows ∙ ap (λ (db : Database). all_rows db.trees) (sym settled))
