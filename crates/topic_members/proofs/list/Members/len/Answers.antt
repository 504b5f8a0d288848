use Rattle.std.proofs.Common.{subst}
use Rattle.topic_members.specs.Members.{NumbersRise}
use Rattle.topic_members.specs.Joined.{Joined}
use Rattle.topic_members.proofs.Numbered.{rises}
use Rattle.topic_members.proofs.list.Members.len.Goals as goal

pub returns-clause-rising : goal.returns-clause-rising
returns-clause-rising c = subst (λ (j : Joined). NumbersRise j.members) c.self.view_is (rises c.self.inside.list.items c.self.inside.next c.self.invariant)
