use Rattle.std.proofs.Common.{◌∙◌, sym, ap}
use Rattle.position_core.specs.declared.flow.Flow.{Flow}
use Rattle.delivery_machine.specs.Words.{pending_in}
use Rattle.topic_subscriptions.specs.Placed.{sub_in}
use Rattle.topic_parts.specs.Parts.{log_of, state_of}
use Rattle.topic_parts.proofs.Pending.{pending_counted}
use Rattle.delivery_machine.specs.ConsumerCounts.{room_of}
use Rattle.topic_core.proofs.Consumers.{counts_are}
use Rattle.topic_core.proofs.watching.counts_in.Goals as goal

pub returns : goal.returns
returns c =
    let at = c.args.at.now in
    let log = log_of at.parts.now in
    let p = at.subscription.now in
    counts_are (state_of at.parts.now) (sub_in log p) c.args.member.now c.pending_at-pending.result c.room_of.result
    (c.pending_at-pending.ensures ∙ sym (pending_counted c.number.result log p.pending.pending at.rising at.placed.pending) ∙ ap (pending_in log (sub_in log p)) c.number.ensures)
    (c.room_of.ensures ∙ ap (λ (f : Flow). room_of f c.pending_at-pending.result) c.flow.ensures)
