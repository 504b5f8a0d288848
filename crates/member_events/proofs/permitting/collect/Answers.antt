use Rattle.delivery_machine.specs.State.{State}
use Rattle.delivery_machine.specs.Run.{Answers}
use Rattle.delivery_machine.specs.declared.event.Event.TheVariants.{Collect}
use Rattle.std.proofs.Common.{refl}
use Rattle.topic_served.specs.Served.{state_in}
use Rattle.member_events.proofs.Beside.{answered_as, bound_members, ranks_collected}
use Rattle.member_events.proofs.permitting.collect.Goals as goal

pub returns-clause-answers : goal.returns-clause-answers
returns-clause-answers c =
    let s = state_in c.args.served.now in
    answered_as s (λ (t : State). Answers s (Collect c.args.consumer) c.collect.result t) c.collect.new.self c.collect.ensures.next (c.collect.ensures.answers s refl)

pub returns-clause-bound : goal.returns-clause-bound
returns-clause-bound c =
    let s = state_in c.args.served.now in
    bound_members c.args.served.now c.collect.new.self c.collect.ensures.next (ranks_collected s c.args.consumer c.collect.result c.collect.new.self.members (c.collect.ensures.answers s refl)) c.requires.bound
