use Rattle.std.proofs.Common.{◌∙◌, sym, ap, arith, false, true}
use Rattle.std.specs.Option.{option_copied, option_map}
use Rattle.std.specs.FinMap as map_of
use Rattle.position_core.specs.declared.position.Position.{Position}
use Rattle.position_core.specs.declared.held.Held.{Held}
use Rattle.topic_parts.specs.Parts.{state_of}
use Rattle.topic_parts.proofs.Waiting.{begins, goes_on, finds, live_waits, held_by_nobody, held_by_one, there_is, length_visible}
use Rattle.topic_parts.proofs.at.AtView.next_waiting.Goals as goal

pub loop-place-init : goal.loop-place-init
loop-place-init c = begins (state_of c.args.self.now.parts.now) c.args.self.now.subscription.now c.args.self.now.placed c.args.from c.next_live-place.result c.next_live-place.ensures

pub returns-in_default-clause-none : goal.returns-in_default-clause-none
returns-in_default-clause-none c =
    absurd (there_is c.args.self.now.parts.now.log.log.log c.loop-place.place (omega (arith, c.loop-place-test.true, c.args.self.now.durable)) (sym c.get.ensures ∙ ap option_copied c.in_default.is))

pub returns-in-None-clause-some : goal.returns-in-None-clause-some
returns-in-None-clause-some c =
    let t = c.args.self.now.parts.now in
    let visible_is = length_visible (state_of t) c.args.self.now.durable in
    finds (state_of t) c.args.self.now.subscription.now c.args.self.now.placed c.args.from c.loop-place.place c.loop-place.invariant (omega (arith, visible_is, c.loop-place-test.true))
    (live_waits (state_of t) c.args.self.now.subscription.now c.args.self.now.placed c.loop-place.place c.in-Some.message.now false (sym c.in-Some.ensures) c.loop-place.invariant.live
    (held_by_nobody c.args.self.now.subscription.now.pending.pending c.in-Some.message.now.position (sym c.in-None.is ∙ c.holder.ensures ∙ ap (λ (q : Position). option_map (λ (h : Held). h.consumer) (map_of.get c.args.self.now.subscription.now.pending.pending q)) c.position.ensures)))

pub overflow_add-place : goal.overflow_add-place
overflow_add-place c = omega (arith, c.loop-place-test.true)

pub loop-place-preserved : goal.loop-place-preserved
loop-place-preserved c =
    let t = c.args.self.now.parts.now in
    goes_on (state_of t) c.args.self.now.subscription.now c.args.self.now.placed c.args.from c.loop-place.place c.next_live-place-in-Some-holder.result c.loop-place.invariant
    (live_waits (state_of t) c.args.self.now.subscription.now c.args.self.now.placed c.loop-place.place c.in-Some.message.now true (sym c.in-Some.ensures) c.loop-place.invariant.live
    (held_by_one c.args.self.now.subscription.now.pending.pending c.in-Some.message.now.position c.in-Some-holder.field-0 (sym c.in-Some-holder.is ∙ c.holder.ensures ∙ ap (λ (q : Position). option_map (λ (h : Held). h.consumer) (map_of.get c.args.self.now.subscription.now.pending.pending q)) c.position.ensures)))
    c.next_live-place-in-Some-holder.ensures
