use Rattle.std.proofs.Common.{◌≡◌, rules, ap, sym, ◌∙◌, w64, to_z, of_z}
use Rattle.std.proofs.lemmas.Int.{to_z-of_z}
use Rattle.position_core.specs.declared.message.Entry.{Entry}
use Rattle.log_pieces.specs.Pieces.{joined}
use Rattle.topic_log.proofs.Restored.{message_on}
use Rattle.topic_log.proofs.restoring.add_messages.Goals as goal

pub loop-index-preserved : goal.loop-index-preserved
loop-index-preserved c authors are agrees =
    let e = c.in-Some.message.now in
    let numbered : to_z w64 (of_z w64 c.entry-entry.result.now.sequence) ≡ e.sequence = to_z-of_z w64 c.entry-entry.result.now.sequence (search rules) ∙ ap (λ (x : Entry). x.sequence) c.entry-entry.ensures in
    message_on c.args.gone (joined c.args.pieces.now) c.loop-index.index e authors c.loop-index.sequences c.offer.new.self are (sym c.in-Some.ensures)
    (λ xs before m are_xs agree named same. c.in_ok-offer.ensures.agrees xs before m are_xs agree (named ∙ sym (ap (λ (x : Entry). x.producer) c.entry-entry.ensures)) (same ∙ sym numbered))
    (c.loop-index.invariant authors are agrees)
