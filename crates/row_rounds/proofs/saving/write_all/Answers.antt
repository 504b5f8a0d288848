use Rattle.std.proofs.Common.{◌∙◌, arith}
use Rattle.sqlite.specs.State.{HasCleanDisk}
use Rattle.sqlite.specs.Held.{state}
use Rattle.sqlite.proofs.StateLemmas.{survives_then}
use Rattle.row_rounds.proofs.GoesLemmas.{goes_then}
use Rattle.row_rounds.proofs.ManyLemmas.{rounds_more}
use Rattle.row_rounds.proofs.saving.write_all.Goals as goal

pub loop-write-preserved : goal.loop-write-preserved
loop-write-preserved g c =
    let first = state g.S.Store c.args.tx.now.conn.now in
    let mid = state g.S.Store c.loop-write.tx.conn.now in
    let last = state g.S.Store c.write_one.new.tx.conn.now in
    record {
      same = c.write_one.ensures.same_reference ∙ c.loop-write.invariant.same;
      kept = survives_then first mid last _ _ (λ _. ⊥) (λ _ db none. none) (λ _ db none. none) c.loop-write.invariant.kept c.write_one.ensures.survives;
      done = λ clean.
          let early : HasCleanDisk mid = omega (arith, c.write_one.ensures.survives.clean) in
          goes_then _ _ _ (rounds_more c.args.writes.now c.loop-write.write-index c.write-item.result c.requires.apart (omega arith) c.write-item.is) first mid last (c.loop-write.invariant.done early) (c.in_ok-write_one.ensures.done clean);
    }
