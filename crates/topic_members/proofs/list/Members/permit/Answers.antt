use Rattle.topic_members.proofs.Numbered.{rises, numbered_same}
use Rattle.topic_members.proofs.list.Members.permit.Goals as goal

pub permit-requires : goal.permit-requires
permit-requires c = rises c.self.inside.list.items c.self.inside.next c.self.invariant

pub invariant_of-self : goal.invariant_of-self
invariant_of-self c = numbered_same c.self.inside.list.items c.permit.new.members.items c.self.inside.next c.self.invariant c.permit.ensures.numbers
