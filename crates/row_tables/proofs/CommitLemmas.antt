-- What queries in a transaction leave of the last commit.
use Rattle.std.proofs.Common.{◌≡◌, ℕ, true, List, inl, inr, ◌⊎◌, Option, Some, None, Result, Ok, Err, IfOk, IfErr, OnOk, IsTrue, sym, ◌∙◌}
use Rattle.sqlite.specs.Order.{Row}
use Rattle.sqlite.specs.declared.error.Error.{Error}
use Rattle.sqlite.specs.Held.{Held, state}
use Rattle.sqlite.specs.State.{State, IsUnchanged, IsRolledBack, KeepsCommit, IsNotRun, FailsToQuery, FailsToShow, Shown, IsTooLate}
use Rattle.sqlite_resolve.specs.declared.compiled.Compiled.{Compiled}
use Rattle.sqlite_schema.specs.declared.command.Returning.{Returning}
use Rattle.sqlite_trees.specs.declared.store.Store.{Ghosts}
use Rattle.row_tables.proofs.ReadLemmas.{was_open}

keeps_unchanged : (old new : State) → IsUnchanged old new → KeepsCommit old new
keeps_unchanged old new h = record { was_open = λ _. h.0.was_open; committed = λ _. h.0.committed_is }

keeps_undone : (old new : State) → IsRolledBack old new → KeepsCommit old new
keeps_undone old new h = record { was_open = h.was_open; committed = λ now. (h.undone now).1 }

keeps_unrun : (old new : State) (sql : List ℕ) (params : Row) (e : Error) → IsNotRun old new sql params e → KeepsCommit old new
unfolding IsNotRun
keeps_unrun old new sql params e (inl h) = keeps_unchanged old new h.1
keeps_unrun old new sql params e (inr h) = keeps_undone old new h.3

keeps_unshown : (old new : State) (sql : List ℕ) (c : Compiled) (params : Row) (e : Error) (returning : Option Returning) → FailsToShow old new sql c params e returning → KeepsCommit old new
keeps_unshown old new sql c params e None h = keeps_unchanged old new h.3
keeps_unshown old new sql c params e (Some what) (inl h) = keeps_unchanged old new h.1
keeps_unshown old new sql c params e (Some what) (inr h) = keeps_undone old new h.3

keeps_failed : (old new : State) (sql : List ℕ) (params : Row) (e : Error) → FailsToQuery sql params old new e → KeepsCommit old new
unfolding FailsToQuery
keeps_failed old new sql params e (inl h) = keeps_unrun old new sql params e h
keeps_failed old new sql params e (inr h) = keeps_unshown old new sql h.0 _ e h.0.returning h.2

keeps_late : (old new : State) (sql : List ℕ) (params : Row) (e : Error) → IsTooLate sql params old new e → KeepsCommit old new
keeps_late old new sql params e h = keeps_unchanged old new h.5

keeps_shown : (old new : State) (sql : List ℕ) (params : Row) (rows : List Row) → IsTrue old.in_transaction → Shown sql params old new rows → KeepsCommit old new
unfolding Shown
keeps_shown old new sql params rows running h =
    let was = was_open old new sql h.0 _ rows h.0.returning h.2 in
    record { was_open = λ _. was.0; committed = λ _. (was.2 running).1 }

-- what was read was open
pub shown_open : {A : Type 0} (items : A → List Row) (old new : State) (sql : List ℕ) (params : Row) (r : Result A Error) → IfOk r (λ a. Shown sql params old new (items a)) → OnOk r (IsTrue old.is_open)
unfolding Shown
shown_open items old new sql params (Ok a) h = (was_open old new sql h.0 _ (items a) h.0.returning h.2).0
shown_open items old new sql params (Err e) h = tt

-- whatever a query answers in a transaction, nothing is committed
pub keeps_commit : {A : Type 0} (items : A → List Row) (old new : State) (sql : List ℕ) (params : Row) (r : Result A Error) → IfOk r (λ a. Shown sql params old new (items a))
    → IfErr r (λ e. FailsToQuery sql params old new e ⊎ IsTooLate sql params old new e) → IsTrue old.in_transaction → KeepsCommit old new
keeps_commit items old new sql params (Ok a) shown failed running = keeps_shown old new sql params (items a) running shown
keeps_commit items old new sql params (Err e) shown (inl failed) running = keeps_failed old new sql params e failed
keeps_commit items old new sql params (Err e) shown (inr late) running = keeps_late old new sql params e late

pub keeps_then : (a b c : State) → KeepsCommit a b → KeepsCommit b c → KeepsCommit a c
keeps_then a b c p q = record { was_open = λ now. p.was_open (q.was_open now); committed = λ now. q.committed now ∙ p.committed (q.was_open now) }

-- a transaction of queries that is rolled back leaves what stood, where nothing waited for a commit before
pub stays_by : {S : Type 0} (g : Ghosts S) (old : Held S) (mid last : State) → (IsTrue (state g old).is_open → (state g old).now ≡ (state g old).committed)
    → KeepsCommit (state g (record old { in_transaction = true })) mid → IsRolledBack mid last → IsTrue last.is_open → IsTrue (state g old).is_open × (last.now ≡ (state g old).now)
stays_by g old mid last settled kept back now =
    let before = back.was_open now in
    let was = kept.was_open before in
    (was, (back.undone now).0 ∙ kept.committed before ∙ sym (settled was))
