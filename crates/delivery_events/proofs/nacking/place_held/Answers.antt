use Rattle.std.proofs.Common.{◌≡◌, ◌∙◌, sym, true, subst}
use Rattle.std.specs.FinMap as map_of
use Rattle.delivery_machine.specs.Words.{is_held_by}
use Rattle.topic_subscriptions.specs.Placed.{Placed}
use Rattle.topic_parts.proofs.Changing.{there_is}
use Rattle.topic_served.specs.Served.{state_in}
use Rattle.delivery_events.proofs.HeldAt.{by_holder, by_nobody, by_other, held_nowhere, held_there}
use Rattle.delivery_events.proofs.nacking.place_held.Goals as goal

pub returns-in_default-clause-held : goal.returns-in_default-clause-held
returns-in_default-clause-held c = sym (held_nowhere (state_in c.args.served.now) c.args.name.now c.args.consumer c.args.position c.in_default.ensures.value)

pub returns-in_default-holder-clause-held : goal.returns-in_default-holder-clause-held
returns-in_default-holder-clause-held c =
    let x = c.index.result.now in
    sym (held_there c.args.served.now.parts c.args.name.now c.args.consumer c.args.position c.in-Some.place x c.in-Some.ensures.placed c.index.ensures
    ∙ by_nobody (map_of.get x.pending.pending c.args.position) c.args.consumer (sym c.holder.ensures ∙ c.in_default-holder.is))

pub returns-then-holder-consumer-clause-some : goal.returns-then-holder-consumer-clause-some
returns-then-holder-consumer-clause-some c =
    let x = c.index.result.now in
    let held = by_holder (map_of.get x.pending.pending c.args.position) c.args.consumer c.in-Some-holder.holder (sym c.holder.ensures ∙ c.in-Some-holder.is) c.if-holder-consumer.true in (
      c.in-Some.ensures.placed,
      λ p at. subst (λ (y : Placed). is_held_by c.args.consumer (map_of.get y.pending.pending c.args.position) ≡ true)
          (there_is c.args.served.now.parts.subscriptions.items c.in-Some.place x p c.index.ensures (sym at)) held,
    )

pub returns-then-holder-consumer-clause-held : goal.returns-then-holder-consumer-clause-held
returns-then-holder-consumer-clause-held c =
    let x = c.index.result.now in
    sym (held_there c.args.served.now.parts c.args.name.now c.args.consumer c.args.position c.in-Some.place x c.in-Some.ensures.placed c.index.ensures
    ∙ by_holder (map_of.get x.pending.pending c.args.position) c.args.consumer c.in-Some-holder.holder (sym c.holder.ensures ∙ c.in-Some-holder.is) c.if-holder-consumer.true)

pub returns-else-holder-consumer-clause-held : goal.returns-else-holder-consumer-clause-held
returns-else-holder-consumer-clause-held c =
    let x = c.index.result.now in
    sym (held_there c.args.served.now.parts c.args.name.now c.args.consumer c.args.position c.in-Some.place x c.in-Some.ensures.placed c.index.ensures
    ∙ by_other (map_of.get x.pending.pending c.args.position) c.args.consumer c.in-Some-holder.holder (sym c.holder.ensures ∙ c.in-Some-holder.is) c.if-holder-consumer.false)
