use Rattle.std.proofs.Common.{◌∙◌, sym, ap}
use Rattle.position_core.specs.Flow.{flow_has_room}
use Rattle.pending_core.specs.Pending.{pending_count_at}
use Rattle.topic_parts.proofs.Pending.{pending_counted, room_by_credit}
use Rattle.topic_parts.proofs.at.At.has_room.Goals as goal

pub returns-in-Window : goal.returns-in-Window
returns-in-Window c =
    let at = c.args.self.now in
    c.has_room.ensures
    ∙ ap (flow_has_room c.args.member.now.flow)
    (c.pending_near.ensures ∙ ap (pending_count_at at.subscription.now.pending) c.number.ensures
    ∙ sym (pending_counted c.args.member.now.number at.parts.now.log.log.log at.subscription.now.pending.pending at.rising at.placed.pending))

pub returns-in-Credit : goal.returns-in-Credit
returns-in-Credit c = c.has_room-in-Credit.ensures ∙ room_by_credit c.args.member.now.flow c.in-Credit.field-0 (sym c.flow.ensures ∙ c.in-Credit.is) 0 _
