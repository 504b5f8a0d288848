use Rattle.std.proofs.Common.{◌-◌, ◌∙◌, Some, ap, sym, arith}
use Rattle.position_core.specs.declared.position.Position.{Position}
use Rattle.topic_parts.specs.Parts.{log_of}
use Rattle.message_events.proofs.Counted.{end_within, last_marked, none_there, nothing_marked}
use Rattle.message_events.proofs.statistics.mark_delete.Goals as goal

pub returns-then-end-eq0 : goal.returns-then-end-eq0
returns-then-end-eq0 c =
    nothing_marked (log_of c.args.parts.now) c.args.parts.now.members.members c.args.subscription.now c.len-length.ensures.rising c.requires c.mark_delete_end-end.result c.mark_delete_end-end.ensures c.if-end-eq0.true

pub returns-in-Some : goal.returns-in-Some
returns-in-Some c =
    ap (λ (q : Position). Some q) c.position.ensures
    ∙ last_marked (log_of c.args.parts.now) c.args.parts.now.members.members c.args.subscription.now c.len-length.ensures.rising c.requires c.mark_delete_end-end.result c.mark_delete_end-end.ensures
    (c.mark_delete_end-end.result - 1) c.in-Some.message.now (omega (arith, c.if-end-eq0.false)) (sym c.in-Some.ensures)

pub returns-in-None : goal.returns-in-None
returns-in-None c =
    absurd (none_there (log_of c.args.parts.now) (c.mark_delete_end-end.result - 1)
    (let within = end_within (log_of c.args.parts.now) c.args.parts.now.members.members c.args.subscription.now c.len-length.ensures.rising c.requires c.mark_delete_end-end.result c.mark_delete_end-end.ensures in
    omega (arith, within, c.if-end-eq0.false))
    (sym c.in-None.ensures))
