use Rattle.std.proofs.Common.{refl}
use Rattle.delivery_machine.specs.Words.{is_member}
use Rattle.topic_members.specs.Members.{shortened}
use Rattle.topic_members.proofs.Numbered.{rises, numbered_changed}
use Rattle.topic_members.proofs.list.Members.take_back.Goals as goal

pub take_back-requires : goal.take_back-requires
take_back-requires c = rises c.self.inside.list.items c.self.inside.next c.self.invariant

pub invariant_of-self : goal.invariant_of-self
invariant_of-self c = numbered_changed (is_member c.args.number) (shortened) (λ _. refl) c.self.inside.list.items c.take_back.new.members.items c.self.inside.next c.self.invariant c.take_back.ensures
