use Rattle.std.proofs.Common.{◌≡◌, arith, ◌∷◌, [], ◌++◌, take, sym, ◌∙◌, ap, ◌+◌}
use Rattle.std.proofs.lemmas.List.{take_more}
use Rattle.std.proofs.lemmas.Grind.{common_steps}
use Rattle.delivery_machine.specs.declared.event.Event.{Event}
use Rattle.delivery_machine.proofs.RunSteps.{Run-push}
use Rattle.delivery_machine.proofs.runs.run.Goals as goal

pub loop-event-preserved : goal.loop-event-preserved
loop-event-preserved g c =
    let longer : take (c.loop-event.event-index + 1) c.args.events.now ≡ take c.loop-event.event-index c.args.events.now ++ c.event-item.result ∷ [] =
    take_more c.args.events.now c.loop-event.event-index c.event-item.result c.loop-event-test.true ∙ ap (λ (e : Event). take c.loop-event.event-index c.args.events.now ++ e ∷ []) (sym c.event-item.is) in
    record {
      run = rw (longer, c.push_reserved.ensures.items) (Run-push _ _ _ _ _ _ _ c.loop-event.invariant.run c.apply.ensures);
      answered = grind (arith, common_steps);
      room = grind (arith, common_steps);
    }
