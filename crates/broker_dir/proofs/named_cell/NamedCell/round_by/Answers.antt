use Rattle.std.proofs.Common.{◌∙◌}
use Rattle.broker_dir.proofs.Seats.{round_named, round_origin, round_word}
use Rattle.broker_dir.proofs.named_cell.NamedCell.round_by.Goals as goal

pub invariant_of-self : goal.invariant_of-self
invariant_of-self g c =
    let was = c.args.self.now in
    record {
      by_proof = round_word _ _ c.round.result was.cell c.round.new.cell c.round.ensures.proof c.round.ensures.cell was.by_proof;
      named = round_named c.round.result was.cell c.round.new.cell c.round.ensures.line c.round.ensures.cell ∙ was.named;
      origin = round_origin _ _ _ c.round.result was.cell c.round.new.cell was.rows was.name c.round.ensures.proof c.round.ensures.cell was.origin;
    }
