use Rattle.std.proofs.Common.{◌≡◌, ◌∙◌, ℕ, Option, Some, None, refl, ap, ap₂, sym, subst}
use Rattle.position_core.specs.declared.fault.Fault.{Fault}
use Rattle.delivery_machine.specs.State.{State}
use Rattle.delivery_machine.specs.Run.{Answers}
use Rattle.delivery_machine.specs.Words.{active_at}
use Rattle.delivery_machine.specs.Joining.{taken_over, with_member}
use Rattle.delivery_machine.specs.declared.event.Event.TheVariants.{Subscribe}
use Rattle.delivery_machine.specs.declared.reply.Reply.TheVariants.{Refused, Subscribed}
use Rattle.machine_laws.proofs.TurnedAway.{turned_away}
use Rattle.topic_members.specs.Members.{joining}
use Rattle.topic_served.specs.Served.{state_in}
use Rattle.member_events.specs.Active.{active_in_order}
use Rattle.member_events.proofs.Active.{known_before_joining, same_takeover}
use Rattle.member_events.proofs.subscribing.subscribe.Goals as goal

none_is : (o : Option Fault) → ((fault : Fault) → o ≡ Some fault → ⊥) → o ≡ None
none_is None other = refl
none_is (Some fault) other = absurd (other fault refl)

pub take_over-requires-clause-stands : goal.take_over-requires-clause-stands
take_over-requires-clause-stands c = record { name = c.args.subscription.now; named = c.in-Ok.ensures.place }

pub returns-in-Ok-clause-answers : goal.returns-in-Ok-clause-answers
returns-in-Ok-clause-answers c =
    let s = state_in c.args.served.now in
    let name = c.args.subscription.now in
    let m = joining s.next_consumer name c.args.terms c.args.dead_topic.now in
    let allowed = none_is c.subscribing_refused-refused.result c.in_default.not-Some in (
      sym c.subscribing_refused-refused.ensures ∙ allowed,
      (
        ap Subscribed c.next-consumer.ensures.value,
        c.take_over.ensures.over name c.in-Ok.ensures.place
            ∙ ap₂ (λ (before : Option ℕ) (u : State). taken_over name before u) c.active_in-before.ensures c.in-Ok.ensures.ok
            ∙ same_takeover (with_member s c.args.kind c.args.ranges.now c.args.initial m) name (active_in_order s name) (active_at s name)
            (known_before_joining s name c.args.kind c.args.terms c.args.dead_topic.now c.args.ranges.now (sym allowed ∙ c.subscribing_refused-refused.ensures) m c.args.initial refl),
        c.number_of-asked.ensures.within,
      ),
    )

pub returns-in-Err-clause-answers : goal.returns-in-Err-clause-answers
returns-in-Err-clause-answers c =
    let s = state_in c.args.served.now in
    subst (λ f. Answers s (Subscribe c.args.subscription.now c.args.kind c.args.terms.level c.args.terms.flow c.args.terms.ack_timeout c.args.terms.nack_delay c.args.terms.max_redeliver c.args.dead_topic.now c.args.initial c.args.ranges.now) (Refused f) (state_in c.come_in.new.served)) (sym c.in-Err.ensures.err)
    (refl, sym c.subscribing_refused-refused.ensures ∙ none_is c.subscribing_refused-refused.result c.in_default.not-Some, c.in-Err.ensures.same)

pub returns-in-Some-clause-answers : goal.returns-in-Some-clause-answers
returns-in-Some-clause-answers c =
    let terms = c.args.terms in
    turned_away (state_in c.args.served.now) c.args.subscription.now c.args.kind terms.max_redeliver c.args.dead_topic.now c.args.ranges.now terms.level terms.flow terms.ack_timeout terms.nack_delay c.args.initial c.in-Some.fault (sym c.in-Some.ensures)
