use Rattle.topic_members.proofs.Numbered.{rises, numbered_same}
use Rattle.topic_members.proofs.list.Members.collect.Goals as goal

pub collect-requires : goal.collect-requires
collect-requires c = rises c.self.inside.list.items c.self.inside.next c.self.invariant

pub invariant_of-self : goal.invariant_of-self
invariant_of-self c = numbered_same c.self.inside.list.items c.collect.new.members.items c.self.inside.next c.self.invariant c.collect.ensures.numbers
