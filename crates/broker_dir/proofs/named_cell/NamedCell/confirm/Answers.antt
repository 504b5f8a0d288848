use Rattle.std.proofs.Common.{◌∙◌}
use Rattle.broker_dir.proofs.Seats.{confirmed_named, confirmed_origin, confirmed_state}
use Rattle.broker_dir.proofs.named_cell.NamedCell.confirm.Goals as goal

pub invariant_of-self : goal.invariant_of-self
invariant_of-self g c =
    let was = c.args.self.now in
    record {
      by_proof = c.confirm.ensures.word ∙ was.by_proof;
      named = confirmed_named c.confirm.result was.cell c.confirm.new.self c.args.kept c.confirm.ensures.nothing c.confirm.ensures.line ∙ was.named;
      origin = confirmed_origin c.confirm.result was.cell c.confirm.new.self was.rows c.args.kept was.name c.confirm.ensures.nothing c.confirm.ensures.stored was.origin;
    }

pub returns-clause-state : goal.returns-clause-state
returns-clause-state g c =
    let was = c.args.self.now in
    confirmed_state c.confirm.result was.cell c.confirm.new.self c.args.kept c.confirm.ensures.nothing c.confirm.ensures.line
