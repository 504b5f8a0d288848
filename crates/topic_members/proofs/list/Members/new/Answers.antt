use Rattle.std.proofs.Common.{sym, subst, List}
use Rattle.delivery_machine.specs.State.{Member}
use Rattle.topic_members.specs.Joined.{AreNumbered, numbers_of}
use Rattle.topic_members.proofs.Numbered.{numbered_none}
use Rattle.topic_members.proofs.list.Members.new.Goals as goal

pub invariant_of-result : goal.invariant_of-result
invariant_of-result c = subst (λ (ms : List Member). AreNumbered (numbers_of ms) 1) (sym c.new.ensures.items) numbered_none
