use Rattle.std.proofs.Common.{refl}
use Rattle.delivery_machine.specs.Words.{is_member}
use Rattle.topic_members.specs.Members.{pushed}
use Rattle.topic_members.proofs.Numbered.{rises, numbered_given}
use Rattle.topic_members.proofs.list.Members.give.Goals as goal

pub give-requires : goal.give-requires
give-requires c = rises c.self.inside.list.items c.self.inside.next c.self.invariant

pub invariant_of-self : goal.invariant_of-self
invariant_of-self c = numbered_given c.give.result (is_member c.args.number) (pushed c.args.delivery) (λ _. refl) c.self.inside.list.items c.give.new.members.items c.self.inside.next c.self.invariant c.give.ensures.ok c.give.ensures.err
