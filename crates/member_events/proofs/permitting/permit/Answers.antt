use Rattle.delivery_machine.specs.State.{State}
use Rattle.delivery_machine.specs.Run.{Answers}
use Rattle.delivery_machine.specs.declared.event.Event.TheVariants.{Permit}
use Rattle.std.proofs.Common.{refl}
use Rattle.topic_served.specs.Served.{state_in}
use Rattle.member_events.proofs.Beside.{answered_as, bound_members, ranks_permitted}
use Rattle.member_events.proofs.permitting.permit.Goals as goal

pub returns-clause-answers : goal.returns-clause-answers
returns-clause-answers c =
    let s = state_in c.args.served.now in
    answered_as s (λ (t : State). Answers s (Permit c.args.consumer c.args.permits) c.permit.result t) c.permit.new.self c.permit.ensures.next (c.permit.ensures.answers s refl)

pub returns-clause-bound : goal.returns-clause-bound
returns-clause-bound c =
    let s = state_in c.args.served.now in
    bound_members c.args.served.now c.permit.new.self c.permit.ensures.next (ranks_permitted s c.args.consumer c.args.permits c.permit.result c.permit.new.self.members (c.permit.ensures.answers s refl)) c.requires.bound
