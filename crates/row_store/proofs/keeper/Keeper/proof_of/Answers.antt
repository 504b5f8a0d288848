use Rattle.std.proofs.Common.{◌≡◌, not, IsTrue, refl, subst, sym, ap, ◌∙◌}
use Rattle.sqlite.specs.Effect.{Database}
use Rattle.sqlite.specs.Held.{state}
use Rattle.row_forms.specs.Standing.{Stands}
use Rattle.stored_cell.specs.Noted.{StandsAmong, all_rows}
use Rattle.row_store.proofs.Storing.{among, shown_is}
use Rattle.row_store.proofs.keeper.Keeper.proof_of.Goals as goal

pub new-requires : goal.new-requires
new-requires g c = λ is_clean.
    let s = state g.S.Store c.self.inside.conn in
    let shown = shown_is s (sym c.in-Some-commit.ensures.clean ∙ is_clean) in
    let stands = (rw (← c.self.view_is) at c.requires.stands) shown.0 shown.1 in
    let runs_alone = subst IsTrue (sym (c.is_autocommit.ensures.value ∙ ap not c.self.invariant.0.autocommit)) refl in
    let settled : s.now ≡ s.committed = c.is_autocommit.ensures.settled runs_alone shown.1 in
    let there = among c.args.snapshot.now s.committed.trees (subst (λ (db : Database). Stands c.args.snapshot.now db.trees) settled stands) in
    subst (λ r. StandsAmong c.in-Some.mark.kept r) (sym c.in-Some-commit.ensures.rows) (subst (λ k. StandsAmong k (all_rows s.committed.trees)) (sym c.in-Some.ensures) there)
