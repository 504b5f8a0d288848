use Rattle.std.proofs.Common.{◌≡◌, ◌∙◌, arith, IsTrue, refl}
use Rattle.sqlite.specs.State.{HasCleanDisk, KeepsCommit}
use Rattle.sqlite.specs.Held.{state}
use Rattle.sqlite.proofs.StateLemmas.{survives_then}
use Rattle.sqlite.proofs.InsideLemmas.{keeps_then}
use Rattle.row_store.proofs.counting.subscriptions_of.Goals as goal

pub loop-row-preserved : goal.loop-row-preserved
loop-row-preserved g c =
    let first = state g.S.Store c.args.tx.now.conn.now in
    let mid = state g.S.Store c.loop-row.tx.conn.now in
    let last = state g.S.Store c.subscription_of.new.tx.conn.now in
    record {
      same = c.subscription_of.ensures.same_reference ∙ c.loop-row.invariant.same;
      survives = survives_then first mid last _ _ (λ _. ⊥) (λ _ db none. none) (λ _ db none. none) c.loop-row.invariant.survives c.subscription_of.ensures.survives;
      kept = λ clean run.
          let early : HasCleanDisk mid = omega (arith, c.subscription_of.ensures.survives.clean) in
          keeps_then first mid last (c.loop-row.invariant.kept early run) (c.subscription_of.ensures.kept clean (c.loop-row.invariant.running early run));
      running = λ clean run.
          let early : HasCleanDisk mid = omega (arith, c.subscription_of.ensures.survives.clean) in
          c.in_ok-one.ensures.running clean (c.loop-row.invariant.running early run);
    }

pub returns-in_err-one-clause-survives : goal.returns-in_err-one-clause-survives
returns-in_err-one-clause-survives g c =
    let first = state g.S.Store c.args.tx.now.conn.now in
    let mid = state g.S.Store c.loop-row.tx.conn.now in
    let last = state g.S.Store c.subscription_of.new.tx.conn.now in
    survives_then first mid last _ _ (λ _. ⊥) (λ _ db none. none) (λ _ db none. none) c.loop-row.invariant.survives c.subscription_of.ensures.survives

pub returns-in_err-one-clause-kept : goal.returns-in_err-one-clause-kept
returns-in_err-one-clause-kept g c clean run =
    let first = state g.S.Store c.args.tx.now.conn.now in
    let mid = state g.S.Store c.loop-row.tx.conn.now in
    let last = state g.S.Store c.subscription_of.new.tx.conn.now in
    let early : HasCleanDisk mid = omega (arith, c.subscription_of.ensures.survives.clean) in
    keeps_then first mid last (c.loop-row.invariant.kept early run) (c.subscription_of.ensures.kept clean (c.loop-row.invariant.running early run))
