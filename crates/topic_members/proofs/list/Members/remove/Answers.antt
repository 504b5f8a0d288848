use Rattle.std.proofs.Common.{sym, subst, List}
use Rattle.delivery_machine.specs.State.{Member}
use Rattle.delivery_machine.specs.Words.{is_member}
use Rattle.topic_members.specs.Joined.{AreNumbered, numbers_of}
use Rattle.topic_members.proofs.Numbered.{rises, numbered_without}
use Rattle.topic_members.proofs.list.Members.remove.Goals as goal

pub remove-requires : goal.remove-requires
remove-requires c = rises c.self.inside.list.items c.self.inside.next c.self.invariant

pub invariant_of-self : goal.invariant_of-self
invariant_of-self c =
    subst (λ (ms : List Member). AreNumbered (numbers_of ms) c.self.inside.next) (sym c.remove.ensures.left) (numbered_without (is_member c.args.number) c.self.inside.list.items c.self.inside.next c.self.invariant)
