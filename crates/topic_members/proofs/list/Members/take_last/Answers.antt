use Rattle.std.proofs.Common.{ℕ, subst, sym}
use Rattle.topic_members.specs.Joined.{AreNumbered, numbers_of}
use Rattle.topic_members.proofs.Numbered.{numbered_popped}
use Rattle.topic_members.proofs.list.Members.take_last.Goals as goal

pub invariant_of-self : goal.invariant_of-self
invariant_of-self c =
    subst (λ (n : ℕ). AreNumbered (numbers_of c.pop.new.self.items) n) (sym c.number-self-inside.ensures)
    (numbered_popped c.self.inside.list.items c.pop.new.self.items c.in-Some.last c.self.inside.next c.self.invariant c.in-Some.ensures.items)
