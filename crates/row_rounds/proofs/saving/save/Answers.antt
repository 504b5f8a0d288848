use Rattle.std.proofs.Common.{◌≡◌, arith, rules, subst, OnOk, IsTrue}
use Rattle.sqlite.specs.Tree.{Trees}
use Rattle.sqlite.specs.State.{HasCleanDisk, Survives}
use Rattle.sqlite.specs.Held.{state}
use Rattle.row_tables.specs.Goes.{Goes, Saves}
use Rattle.row_tables.specs.Ready.{IsReady}
use Rattle.row_rounds.specs.Rounds.{Rounds}
use Rattle.row_rounds.proofs.GoesLemmas.{crash_from, durable_from, saves_from}
use Rattle.row_rounds.proofs.saving.save.Goals as goal

pub returns-clause-saved : goal.returns-clause-saved
returns-clause-saved g c clean =
    let old = c.args.conn.now in
    let mid = c.write_open.new.tx.conn.now in
    let last = c.commit.new.self.0 in
    let same : last ≡ c.conn-2-1.given.0 = search rules in
    let late : HasCleanDisk (state g.S.Store last) = search rules in
    let P = Rounds c.args.writes.now in
    let went : Goes P (state g.S.Store c.transaction-tx.result.conn.now) (state g.S.Store mid) = c.in_ok-write_open.ensures.done (omega (arith, c.commit.ensures.survives.clean)) in
    subst (λ h. OnOk c.commit.result (Saves P (state g.S.Store old) (state g.S.Store h))) same
    (saves_from g.S.Store old (state g.S.Store mid) (state g.S.Store last) P c.commit.result (rw c.transaction-tx.ensures.begun at went) (c.commit.ensures.ok late))

pub returns-clause-crash : goal.returns-clause-crash
returns-clause-crash g c =
    let old = state g.S.Store c.args.conn.now in
    let last = c.commit.new.self.0 in
    let same : last ≡ c.conn-2-1.given.0 = search rules in
    let begun = c.transaction-tx.ensures.begun in
    let P = Rounds c.args.writes.now in
    subst (λ h. Survives old (state g.S.Store h) (λ db. IsTrue old.is_open × (IsReady old.now → P old.now.trees db))) same
    (crash_from g.S.Store c.args.conn.now (state g.S.Store c.write_open.new.tx.conn.now) (state g.S.Store last) P (rw begun at c.write_open.ensures.survives)
    (λ early. (rw begun at (c.in_ok-write_open.ensures.shown early), rw begun at (c.in_ok-write_open.ensures.done early))) c.commit.ensures.survives)

pub returns-clause-durable : goal.returns-clause-durable
returns-clause-durable g c clean =
    let last = c.commit.new.self.0 in
    let same : last ≡ c.conn-2-1.given.0 = search rules in
    let late : HasCleanDisk (state g.S.Store last) = search rules in
    subst (λ h. OnOk c.commit.result ((db : Trees) → (state g.S.Store h).may_leave db → db ≡ (state g.S.Store h).now.trees)) same
    (durable_from g.S.Store c.write_open.new.tx.conn.now last c.commit.result (g.met.S.Store.settled last.store) (c.commit.ensures.ok late))
