use Rattle.std.proofs.Common.{◌≡◌, rules, subst, OnOk}
use Rattle.sqlite.specs.Tree.{Trees}
use Rattle.sqlite.specs.State.{HasCleanDisk}
use Rattle.sqlite.specs.Held.{state}
use Rattle.row_schema.proofs.MakingLemmas.{durable_from}
use Rattle.row_schema.proofs.raising.to_version_2.Goals as goal

pub returns-clause-durable : goal.returns-clause-durable
returns-clause-durable g c clean =
    let last = c.commit.new.self.0 in
    let same : last ≡ c.conn-2-1.given.0 = search rules in
    let late : HasCleanDisk (state g.S.Store last) = search rules in
    subst (λ h. OnOk c.commit.result ((db : Trees) → (state g.S.Store h).may_leave db → db ≡ (state g.S.Store h).now.trees)) same
    (durable_from g.S.Store c.raise_to_2.new.tx.conn.now last c.commit.result (g.met.S.Store.settled last.store) (c.commit.ensures.ok late))
