use Rattle.std.proofs.Common.{◌∙◌, arith}
use Rattle.sqlite.specs.State.{HasCleanDisk}
use Rattle.sqlite.specs.Held.{state}
use Rattle.sqlite.proofs.StateLemmas.{survives_then}
use Rattle.row_rounds.proofs.GoesLemmas.{goes_then, adds_more}
use Rattle.row_rounds.proofs.differences.add_all.Goals as goal

pub loop-row-preserved : goal.loop-row-preserved
loop-row-preserved g c =
    let first = state g.S.Store c.args.tx.now.conn.now in
    let mid = state g.S.Store c.loop-row.tx.conn.now in
    let last = state g.S.Store c.add.new.tx.conn.now in
    record {
      same = c.add.ensures.same_reference ∙ c.loop-row.invariant.same;
      kept = survives_then first mid last _ _ (λ _. ⊥) (λ _ db none. none) (λ _ db none. none) c.loop-row.invariant.kept c.add.ensures.survives;
      done = λ clean.
          let early : HasCleanDisk mid = omega (arith, c.add.ensures.survives.clean) in
          goes_then _ _ _ (adds_more g.R.Listed.tree (g.R.Listed.cells c.args.topic.now) c.args.rows.now c.loop-row.row-index c.row-item.result (omega arith) c.row-item.is) first mid last (c.loop-row.invariant.done early) (c.in_ok-add.ensures.done clean);
    }
