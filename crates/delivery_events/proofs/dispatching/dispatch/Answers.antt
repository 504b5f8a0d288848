use Rattle.std.proofs.Common.{refl, sym, ap, subst}
use Rattle.delivery_machine.specs.Laws.{IsReached}
use Rattle.delivery_machine.specs.Run.{Answers}
use Rattle.delivery_machine.specs.declared.event.Event.TheVariants.{Dispatch}
use Rattle.topic_subscriptions.specs.Placed.{is_placed, sub_in}
use Rattle.topic_parts.specs.Parts.{log_of, state_of}
use Rattle.topic_parts.specs.declared.parts.Parts.{Parts}
use Rattle.topic_parts.proofs.Changing.{named_sub}
use Rattle.topic_served.specs.Served.{state_in}
use Rattle.topic_served.proofs.Telling.{one_stands, place_within}
use Rattle.delivery_events.proofs.Named.{absent, present}
use Rattle.delivery_events.proofs.dispatching.dispatch.Goals as goal

pub returns-in_default-clause-answers : goal.returns-in_default-clause-answers
returns-in_default-clause-answers c = (absent (state_in c.args.served.now) c.args.name.now c.in_default.ensures.value, refl)

pub look-requires-clause-within : goal.look-requires-clause-within
look-requires-clause-within c = place_within (is_placed c.args.name.now) c.args.served.now.parts.subscriptions.items c.in-Some.place c.in-Some.ensures.placed

pub send_next-requires-clause-settled : goal.send_next-requires-clause-settled
send_next-requires-clause-settled c = record {
  reached = subst (λ (p : Parts). IsReached (state_of p)) (sym c.look.ensures.parts) c.requires.reached;
  bound = c.look.ensures.bound;
}

pub returns-in-Ok-clause-answers : goal.returns-in-Ok-clause-answers
returns-in-Ok-clause-answers c =
    subst (λ (p : Parts). Answers (state_of p) (Dispatch c.args.name.now c.args.now) c.send_next.result (state_in c.send_next.new.served)) c.look.ensures.parts c.send_next.ensures.answers

pub returns-in-Err-clause-answers : goal.returns-in-Err-clause-answers
returns-in-Err-clause-answers c =
    let t = c.args.served.now.parts in
    let x = one_stands (is_placed c.args.name.now) t.subscriptions.items c.in-Some.place c.in-Some.ensures.placed in
    (refl, present (state_in c.args.served.now) c.args.name.now (sub_in (log_of t) x.0) (named_sub (log_of t) t.subscriptions.items c.args.name.now c.in-Some.place c.in-Some.ensures.placed x.0 x.2), ap (λ (p : Parts). state_of p) c.look.ensures.parts)
