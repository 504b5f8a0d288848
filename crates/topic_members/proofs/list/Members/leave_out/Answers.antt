use Rattle.std.proofs.Common.{refl}
use Rattle.delivery_machine.specs.Words.{is_member}
use Rattle.topic_members.specs.Members.{leaving_out}
use Rattle.topic_members.proofs.Numbered.{rises, numbered_changed}
use Rattle.topic_members.proofs.list.Members.leave_out.Goals as goal

pub leave_out-requires : goal.leave_out-requires
leave_out-requires c = rises c.self.inside.list.items c.self.inside.next c.self.invariant

pub invariant_of-self : goal.invariant_of-self
invariant_of-self c = numbered_changed (is_member c.args.number) (leaving_out c.args.positions.now) (λ _. refl) c.self.inside.list.items c.leave_out.new.members.items c.self.inside.next c.self.invariant c.leave_out.ensures
