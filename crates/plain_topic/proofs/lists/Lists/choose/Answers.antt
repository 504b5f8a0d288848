use Rattle.std.proofs.Common.{List, Some, ◌∙◌, sym, subst}
use Rattle.position_core.specs.declared.message.Entry.{Entry}
use Rattle.delivery_machine.specs.State.{Member}
use Rattle.delivery_machine.specs.Words.{with_room_in}
use Rattle.plain_queries.specs.Turn.{IsBestLevel}
use Rattle.plain_topic.specs.StateOf.{state_of}
use Rattle.plain_topic.proofs.Chosen.{shared_pair}
use Rattle.plain_topic.proofs.lists.Lists.choose.Goals as goal

pub returns-in_ok-member-in-Shared-clause-pair : goal.returns-in_ok-member-in-Shared-clause-pair
returns-in_ok-member-in-Shared-clause-pair c =
    let sub = c.args.subscription.now in
    let m = c.in_ok-member-in-Shared.member.now in
    shared_pair (state_of c.args.self.now) sub c.in_ok-message-in-Shared.message.now m
    (sym c.kind.ensures ∙ c.in-Shared.is)
    (sym c.in_ok-message-in-Shared.ensures)
    (subst (λ (log : List Entry). IsBestLevel (with_room_in log c.args.self.now.members.items sub) (Some m)) c.deref-in-Shared-2.ensures.value
    (subst (λ (members : List Member). IsBestLevel (with_room_in c.deref-in-Shared-2.result.now members sub) (Some m)) c.deref-in-Shared.ensures.value c.in_ok-member-in-Shared.ensures))
