use Rattle.std.proofs.Common.{◌∙◌, ap, Some, true, false}
use Rattle.std.specs.Prelude.{◌&&◌}
use Rattle.std.specs.Option.{option_copied}
use Rattle.delivery_machine.specs.State.{Member}
use Rattle.delivery_machine.specs.Words.{has_room_in, is_at}
use Rattle.plain_queries.proofs.Turns.{best_level_step}
use Rattle.plain_queries.proofs.turn.next_in_turn.Goals as goal
use Rattle.plain_queries.proofs.turn.next_in_turn.Goals.{then-is_roomy, else-is_roomy}

pub loop-member-preserved : goal.loop-member-preserved
loop-member-preserved c =
    let roomy = λ (m : Member). is_at c.args.subscription.now.name m && has_room_in c.args.log.now c.args.subscription.now m in
    elim c.if-is_roomy.branch [
      | then-is_roomy w ↦ best_level_step roomy c.last_served-last.result c.args.members.now c.loop-member.member-index c.member-item.result true (option_copied c.loop-member.best) (option_copied c.if-is_roomy.best) c.loop-member-test.true c.member-item.is w.if-is_roomy.ensures c.loop-member.invariant (ap option_copied w.best-is ∙ ap Some w.next.ensures)
      | else-is_roomy w ↦ best_level_step roomy c.last_served-last.result c.args.members.now c.loop-member.member-index c.member-item.result false (option_copied c.loop-member.best) (option_copied c.if-is_roomy.best) c.loop-member-test.true c.member-item.is w.if-is_roomy.ensures c.loop-member.invariant (ap option_copied w.best-is)
    ]
