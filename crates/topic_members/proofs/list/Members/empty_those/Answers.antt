use Rattle.std.proofs.Common.{ap, map, subst, ◌∙◌}
use Rattle.delivery_machine.specs.Words.{is_at}
use Rattle.topic_members.specs.Members.{NumbersRise}
use Rattle.topic_members.specs.Joined.{Joined, numbers_of, emptied_in}
use Rattle.topic_members.proofs.Numbered.{rises, numbered_same}
use Rattle.topic_members.proofs.Lined.{numbers_emptied, emptied_those}
use Rattle.topic_members.proofs.list.Members.empty_those.Goals as goal

pub empty_those-requires : goal.empty_those-requires
empty_those-requires c = rises c.self.inside.list.items c.self.inside.next c.self.invariant

pub invariant_of-self : goal.invariant_of-self
invariant_of-self c = numbered_same c.self.inside.list.items c.empty_those.new.members.items c.self.inside.next c.self.invariant (ap numbers_of c.empty_those.ensures ∙ numbers_emptied c.args.line.now c.self.inside.list.items)

pub returns-clause-at : goal.returns-clause-at
returns-clause-at c name is =
    let ms = c.args.self.now.members in
    let rising = subst (λ (j : Joined). NumbersRise j.members) c.self.view_is (rises c.self.inside.list.items c.self.inside.next c.self.invariant) in
    c.empty_those.ensures
    ∙ ap (λ (j : Joined). map (emptied_in c.args.line.now) j.members) c.self.view_is
    ∙ emptied_those (is_at name) ms c.args.line.now rising is
