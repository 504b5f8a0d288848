use Rattle.std.proofs.Common.{inl, inr}
use Rattle.std.proofs.lemmas.Result.{IfErr-weaker, IfOk-weaker}
use Rattle.sqlite.specs.Tree.{Trees}
use Rattle.sqlite.specs.State.{HasCleanDisk}
use Rattle.sqlite.specs.Held.{state}
use Rattle.sqlite_trees.specs.View.{IsClean}
use Rattle.row_store.specs.Keeping.{MayLeave}
use Rattle.row_store.proofs.Restarting.{left_again}
use Rattle.row_store.proofs.keeper.Keeper.start.Goals as goal

pub returns-else-is_empty-clause-crash : goal.returns-else-is_empty-clause-crash
returns-else-is_empty-clause-crash g c =
    IfOk-weaker c.adopt.result _ (λ k. HasCleanDisk (state g.S.Store k.conn) → (db : Trees) → (state g.S.Store k.conn).may_leave db → MayLeave (state g.S.Store c.args.conn) db) (λ k committed clean db left. inr (inl (committed clean db left))) c.adopt.ensures.crash

pub returns-else-is_empty-clause-given_back : goal.returns-else-is_empty-clause-given_back
returns-else-is_empty-clause-given_back g c =
    let s = state g.S.Store c.args.conn in
    IfErr-weaker c.adopt.result _ (λ e. IsClean (g.S.Store.view e.store) → (db : Trees) → g.S.Store.recovers e.store db → MayLeave s db) (λ e given clean db left. left_again s db (given clean db left)) c.adopt.ensures.given_back
