use Rattle.std.proofs.Common.{◌≡◌, true, sym, subst, ◌∙◌}
use Rattle.row_store.specs.Opened.{has_origin}
use Rattle.broker_dir.proofs.Seats.{called_named, called_word}
use Rattle.broker_dir.proofs.named_cell.NamedCell.call.Goals as goal

pub invariant_of-self : goal.invariant_of-self
invariant_of-self g c =
    let was = c.args.self.now in
    record {
      by_proof = called_word c.call.result was.cell c.call.new.self c.args.event c.call.ensures.word c.call.ensures.err was.by_proof c.requires.not_storing;
      named = called_named c.call.result (λ receipt. receipt.reply) was.cell c.call.new.self c.args.event c.call.ensures.step c.call.ensures.err ∙ was.named;
      origin = subst (λ stored. has_origin was.rows stored was.name ≡ true) (sym c.call.ensures.stored.0) was.origin;
    }
