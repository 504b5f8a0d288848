use Rattle.std.proofs.Common.{refl}
use Rattle.delivery_machine.specs.Words.{is_member}
use Rattle.topic_members.specs.Members.{spending}
use Rattle.topic_members.proofs.Numbered.{rises, numbered_changed}
use Rattle.topic_members.proofs.list.Members.spend.Goals as goal

pub spend-requires : goal.spend-requires
spend-requires c = rises c.self.inside.list.items c.self.inside.next c.self.invariant

pub invariant_of-self : goal.invariant_of-self
invariant_of-self c = numbered_changed (is_member c.args.number) (spending) (λ _. refl) c.self.inside.list.items c.spend.new.members.items c.self.inside.next c.self.invariant c.spend.ensures
