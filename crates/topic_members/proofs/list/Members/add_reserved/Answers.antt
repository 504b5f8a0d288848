use Rattle.std.proofs.Common.{List, ap, sym, subst, ◌+◌, ◌<◌, ◌^◌}
use Rattle.delivery_machine.specs.State.{Member}
use Rattle.topic_members.specs.Joined.{Joined, AreNumbered, numbers_of}
use Rattle.topic_members.proofs.Numbered.{numbered_pushed}
use Rattle.topic_members.proofs.list.Members.add_reserved.Goals as goal

pub invariant_of-self : goal.invariant_of-self
invariant_of-self c =
    let left : c.self.inside.next < 2 ^ 63 = subst (λ (j : Joined). j.next < 2 ^ 63) (sym c.self.view_is) c.requires.left in
    subst (λ (ms : List Member). AreNumbered (numbers_of ms) (c.self.inside.next + 1)) (sym c.push_reserved.ensures.items)
    (numbered_pushed c.self.inside.list.items c.self.inside.next c.new.result c.self.invariant left (ap (λ (m : Member). m.number) c.new.ensures))
