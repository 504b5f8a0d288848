use Rattle.std.proofs.Common.{◌∙◌, sym, arith, rules}
use Rattle.sqlite.specs.State.{HasCleanDisk}
use Rattle.sqlite.specs.Held.{state}
use Rattle.sqlite.proofs.StateLemmas.{survives_then}
use Rattle.row_forms.specs.Cells.{ACK}
use Rattle.row_forms.specs.Changes.{ack_cells}
use Rattle.row_rounds.specs.Runs.{old_of, new_of}
use Rattle.row_rounds.proofs.GoesLemmas.{goes_then, goes_by, leaves_all, leaves_less, leaves_none}
use Rattle.row_rounds.proofs.runs.write.Goals as goal

pub sides-init : goal.sides-init
sides-init g c = record {
  same = search rules;
  kept = search rules;
  done = λ clean. leaves_all ACK (ack_cells c.args.topic.now) c.args.rows.now.gone.items c.args.rows.now.news.items _ _ (sym c.deref.ensures.value) (sym c.deref-2.ensures.value) (state g.S.Store c.args.tx.now.conn.now);
}

pub sides-preserved : goal.sides-preserved
sides-preserved g c =
    let first = state g.S.Store c.args.tx.now.conn.now in
    let mid = state g.S.Store c.sides.tx.conn.now in
    let last = state g.S.Store c.write_side.new.tx.conn.now in
    let side = c.in-Some.side in
    record {
      same = c.write_side.ensures.same_reference ∙ c.sides.invariant.same;
      kept = survives_then first mid last _ _ (λ _. ⊥) (λ _ db none. none) (λ _ db none. none) c.sides.invariant.kept c.write_side.ensures.survives;
      done = λ clean.
          let early : HasCleanDisk mid = omega (arith, c.write_side.ensures.survives.clean) in
          goes_then _ _ _ (leaves_less ACK (ack_cells c.args.topic.now) c.args.rows.now.gone.items c.args.rows.now.news.items _ _ (old_of side) (new_of side) _ _ c.in-Some.ensures.olds c.in-Some.ensures.news) first mid last (c.sides.invariant.done early) (c.in_ok-write_side.ensures.done clean);
    }

pub returns-clause-done : goal.returns-clause-done
returns-clause-done g c clean =
    goes_by _ _ (leaves_none ACK (ack_cells c.args.topic.now) c.args.rows.now.gone.items c.args.rows.now.news.items _ _ c.in_default.ensures.no_olds c.in_default.ensures.no_news) (state g.S.Store c.args.tx.now.conn.now) (state g.S.Store c.sides.tx.conn.now) (c.sides.invariant.done clean)
