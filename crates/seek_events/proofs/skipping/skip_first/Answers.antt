use Rattle.std.proofs.Common.{◌∙◌, sym, ap, subst, [], ◌∷◌}
use Rattle.position_core.specs.declared.position.Position.{Position}
use Rattle.log_pieces.specs.Pieces.{index_of}
use Rattle.delivery_machine.specs.State.{State}
use Rattle.delivery_machine.specs.Laws.{IsReached}
use Rattle.delivery_machine.specs.Acknowledging.{with_acknowledged}
use Rattle.topic_served.proofs.Standing.{index_there}
use Rattle.topic_parts.specs.Parts.{log_of}
use Rattle.topic_served.specs.Served.{state_in}
use Rattle.topic_served.proofs.Settled.{well_of}
use Rattle.seek_events.proofs.InTurn.{none_live_before, reached}
use Rattle.seek_events.proofs.skipping.skip_first.Goals as goal

pub acknowledge-requires-clause-well : goal.acknowledge-requires-clause-well
acknowledge-requires-clause-well c = well_of (state_in c.args.served.now) c.requires.settled.reached

pub acknowledge-requires-clause-index : goal.acknowledge-requires-clause-index
acknowledge-requires-clause-index c =
    ap (λ (q : Position). index_of q (log_of c.args.served.now.parts)) c.position-position.ensures
    ∙ index_there (log_of c.args.served.now.parts) c.args.index c.in-Some.message.now c.len-length.ensures.rising (sym c.in-Some.ensures)

pub unreachable-requires-in-Err : goal.unreachable-requires-in-Err
unreachable-requires-in-Err c = none_live_before c.args.served.now c.args.name.now c.args.place c.args.index c.requires.place c.requires.first c.in-Err.ensures.gap

pub returns-clause-settled : goal.returns-clause-settled
returns-clause-settled c = record {
  reached =
      subst (λ (s : State). IsReached s) (sym (c.in-Ok.ensures.ok ∙ ap (λ (q : Position). with_acknowledged (state_in c.args.served.now) c.args.name.now (q ∷ [])) c.position-position.ensures))
      (reached c.args.served.now c.args.name.now c.args.place c.len-length.ensures.rising c.requires.settled c.requires.place c.args.index c.in-Some.message.now c.requires.first c.requires.seen (sym c.in-Some.ensures));
  bound = c.in-Ok.ensures.bound;
}

pub returns-clause-state : goal.returns-clause-state
returns-clause-state c =
    (c.in-Some.message.now, sym c.in-Some.ensures, c.in-Ok.ensures.ok ∙ ap (λ (q : Position). with_acknowledged (state_in c.args.served.now) c.args.name.now (q ∷ [])) c.position-position.ensures)
