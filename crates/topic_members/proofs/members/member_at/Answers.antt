use Rattle.std.proofs.Common.{sym, ap, ◌∙◌, Some}
use Rattle.delivery_machine.specs.Words.{is_member}
use Rattle.delivery_machine.proofs.Places.{found_there, found_nothing}
use Rattle.topic_members.proofs.members.member_at.Goals as goal

pub returns-in-None : goal.returns-in-None
returns-in-None c = sym (found_nothing (is_member c.args.number) c.args.members.now c.in-None.ensures)

pub returns-in-Some : goal.returns-in-Some
returns-in-Some c =
    ap Some c.index-members-place.is
    ∙ sym (found_there (is_member c.args.number) c.args.members.now c.in-Some.place c.index-members-place.result c.in-Some.ensures)
