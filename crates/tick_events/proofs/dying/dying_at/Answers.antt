use Rattle.std.proofs.Common.{◌∙◌, ap, sym}
use Rattle.delivery_machine.specs.Dying.{dying_at}
use Rattle.topic_subscriptions.specs.Placed.{Placed, sub_in}
use Rattle.topic_parts.specs.Parts.{log_of, state_of}
use Rattle.topic_parts.proofs.Changing.{there_is}
use Rattle.tick_events.proofs.Deaths.{dies_at, lives_at}
use Rattle.tick_events.proofs.dying.dying_at.Goals as goal

pub returns-then-is_to_die : goal.returns-then-is_to_die
returns-then-is_to_die c p at =
    let t = c.args.parts.now in
    let x = c.index-subscription.result.now in
    dies_at t.members.members t.next_ordinal (sub_in (log_of t) x) c.args.position c.holder.result c.holder.ensures c.in_ok-holder.field-0 c.in_ok-member.member.now c.in_ok-holder.was (sym c.in_ok-member.ensures)
    (sym (c.is_to_die.ensures (log_of t)) ∙ c.if-is_to_die.true)
    ∙ ap (λ (z : Placed). dying_at (state_of t) (sub_in (log_of t) z) c.args.position) (there_is t.subscriptions.items c.args.place x p c.index-subscription.ensures (sym at))

pub returns-else-is_to_die : goal.returns-else-is_to_die
returns-else-is_to_die c p at =
    let t = c.args.parts.now in
    let x = c.index-subscription.result.now in
    lives_at t.members.members t.next_ordinal (sub_in (log_of t) x) c.args.position c.holder.result c.holder.ensures c.in_ok-holder.field-0 c.in_ok-member.member.now c.in_ok-holder.was (sym c.in_ok-member.ensures)
    (sym (c.is_to_die.ensures (log_of t)) ∙ c.if-is_to_die.false)
    ∙ ap (λ (z : Placed). dying_at (state_of t) (sub_in (log_of t) z) c.args.position) (there_is t.subscriptions.items c.args.place x p c.index-subscription.ensures (sym at))
