use Rattle.std.proofs.Common.{◌∙◌, sym, ap, ap₂, List, ℕ}
use Rattle.std.specs.List.{position}
use Rattle.position_core.specs.declared.position.Position.{Position}
use Rattle.delivery_machine.specs.Words.{is_in_order_at, is_named}
use Rattle.delivery_machine.specs.Acknowledging.{with_acknowledged}
use Rattle.topic_parts.specs.Parts.{log_of}
use Rattle.topic_served.specs.Served.{state_in}
use Rattle.topic_served.proofs.Settled.{has_a_subscription, well_of}
use Rattle.message_events.proofs.UpTo.{up_to_answers, up_to_firsts}
use Rattle.message_events.proofs.acknowledging.ack_up_to.Goals as goal

pub unreachable-requires : goal.unreachable-requires
unreachable-requires c =
    let s = state_in c.args.served.now in
    has_a_subscription s c.args.consumer c.in-Some.member.now (well_of s c.requires.reached) (sym c.in-Some.ensures)
    (c.in_default-place_of.ensures.value ∙ ap (λ (n : List ℕ). position (is_named n) s.subscriptions) (c.in-Ok.ensures.cases ∙ c.subscription-2.ensures))

pub returns-clause-answers : goal.returns-clause-answers
returns-clause-answers c =
    let s = state_in c.args.served.now in
    let name_is = c.in-Ok.ensures.cases ∙ c.subscription-2.ensures in
    up_to_answers s (state_in c.acknowledge_below.new.served) c.args.consumer c.args.position c.in-Some.member.now (sym c.in-Some.ensures)
    (ap (is_in_order_at s) (sym c.subscription.ensures) ∙ sym c.is_in_order_at.ensures ∙ c.if-not-is_in_order_at.false)
    (sym c.in-Some-visible_at.ensures.seen)
    (c.acknowledge_below.ensures.state
    ∙ ap₂ (λ (n : List ℕ) (ps : List Position). with_acknowledged s n ps) name_is
    (sym (up_to_firsts (log_of c.args.served.now.parts) c.args.position c.in-Some-visible_at.index c.len-length.ensures.rising c.in-Some-visible_at.ensures.some)))
