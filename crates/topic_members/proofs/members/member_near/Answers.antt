use Rattle.std.proofs.Common.{◌∙◌, sym}
use Rattle.topic_members.proofs.Halving.{found_at}
use Rattle.topic_members.proofs.members.member_near.Goals as goal

pub returns-then-is_number : goal.returns-then-is_number
returns-then-is_number c =
    found_at c.args.members.now c.args.number c.args.place c.in-Some.member.now c.requires c.in-Some.ensures.lookup.3.0 c.in-Some.ensures.lookup.1 (sym c.is_number.ensures ∙ c.if-is_number.true)
