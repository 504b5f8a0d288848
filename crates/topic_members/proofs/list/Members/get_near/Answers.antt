use Rattle.std.proofs.Common.{List, subst, sym}
use Rattle.delivery_machine.specs.State.{Member}
use Rattle.topic_members.specs.Members.{NumbersRise}
use Rattle.topic_members.proofs.Numbered.{rises}
use Rattle.topic_members.proofs.list.Members.get_near.Goals as goal

pub member_near-requires : goal.member_near-requires
member_near-requires c = subst (λ (ms : List Member). NumbersRise ms) (sym c.deref.ensures.value) (rises c.self.inside.list.items c.self.inside.next c.self.invariant)
