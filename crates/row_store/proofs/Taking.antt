-- What is taken of a database: as it was committed, or become a later version.
use Rattle.std.proofs.Common.{◌≡◌, ◌⊎◌, ◌∙◌, inl, inr, IsTrue, ap, sym, subst}
use Rattle.sqlite.specs.Tree.{Trees}
use Rattle.sqlite.specs.Effect.{Database}
use Rattle.sqlite.specs.State.{State}
use Rattle.row_schema.specs.Upgrading.{Becomes, IsUpgraded, MayBecome}
use Rattle.row_store.specs.Keeping.{IsRaisedFrom, IsSettled, IsTakenFrom}

-- the database was so once what was not committed was undone
module _ (was : Trees) (settled : State) (same : IsTrue settled.is_open → settled.now.trees ≡ was) where
  raised : (taken : State) → IsTrue settled.is_open → Becomes settled taken → IsRaisedFrom was taken.now.trees
  raised taken shown became = subst (λ (db : Trees). IsRaisedFrom db taken.now.trees) (same shown) (settled.now.schema, taken.now.schema, became.is)

  -- its rows, once it is of the last version
  pub rows_taken : (taken : State) → IsUpgraded settled taken → IsTrue taken.is_open → IsTakenFrom was taken.now.trees
  rows_taken taken (shown, inl (ready, remains)) still = inl (ap (λ (db : Database). db.trees) (remains.same still) ∙ same shown)
  rows_taken taken (shown, inr became) still = inr (raised taken shown became)

  -- and what a crash leaves then
  pub crash_taken : (taken : State) → (IsTrue settled.is_open → IsSettled settled) → IsUpgraded settled taken → (db : Trees) → taken.may_leave db → IsTakenFrom was db
  crash_taken taken only (shown, inl (ready, remains)) db may = inl (only shown db (remains.left db may) ∙ same shown)
  crash_taken taken only (shown, inr became) db may = inr (subst (IsRaisedFrom was) (sym (became.left db may)) (raised taken shown became))

  -- or where it did not become that
  pub left_refused : (given : State) → ((db : Trees) → settled.may_leave db → given.may_leave db ⊎ (db ≡ was)) → (db : Trees) → settled.may_leave db ⊎ MayBecome settled db → given.may_leave db ⊎ IsTakenFrom was db
  left_refused given before db (inl may) = elim (before db may) [ inl early ↦ inl early | inr committed ↦ inr (inl committed) ]
  left_refused given before db (inr (shown, (schema, is))) = inr (inr (subst (λ (d : Trees). IsRaisedFrom d db) (same shown) (settled.now.schema, schema, is)))
