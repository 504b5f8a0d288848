use Rattle.std.proofs.Common.{rules, ◌≡◌, ◌∙◌, sym, ap, Some, option_copied, slice_get, arith}
use Rattle.sqlite.specs.State.{HasCleanDisk}
use Rattle.sqlite.specs.Held.{state}
use Rattle.sqlite.proofs.StateLemmas.{survives_then}
use Rattle.log_pieces.specs.Pieces.{joined}
use Rattle.row_rounds.proofs.GoesLemmas.{goes_then, messages_none, messages_next}
use Rattle.row_rounds.proofs.messages.add_messages.Goals as goal

pub loop-index-init : goal.loop-index-init
loop-index-init g c = record {
  same = search rules;
  kept = search rules;
  after = search rules;
  done = λ clean. messages_none c.args.topic.now c.args.gone c.args.from (joined c.args.log.now) (state g.S.Store c.args.tx.now.conn.now);
}

pub loop-index-preserved : goal.loop-index-preserved
loop-index-preserved g c =
    let first = state g.S.Store c.args.tx.now.conn.now in
    let mid = state g.S.Store c.loop-index.tx.conn.now in
    let last = state g.S.Store c.add_message.new.tx.conn.now in
    let log = joined c.args.log.now in
    let here : slice_get log c.loop-index.index ≡ Some c.entry.result.now = sym c.get.ensures ∙ ap option_copied c.in-Some.is ∙ ap Some (sym c.entry.ensures) in
    record {
      same = c.add_message.ensures.same_reference ∙ c.loop-index.invariant.same;
      kept = survives_then first mid last _ _ (λ _. ⊥) (λ _ db none. none) (λ _ db none. none) c.loop-index.invariant.kept c.add_message.ensures.survives;
      after = omega (arith, c.loop-index.invariant.after);
      done = λ clean.
          let early : HasCleanDisk mid = omega (arith, c.add_message.ensures.survives.clean) in
          goes_then _ _ _ (messages_next c.args.topic.now c.args.gone c.args.from c.loop-index.index log c.entry.result.now c.loop-index.invariant.after (omega (arith, c.count-index-end.ensures)) here) first mid last (c.loop-index.invariant.done early) (c.in_ok-add_message.ensures.done clean);
    }
