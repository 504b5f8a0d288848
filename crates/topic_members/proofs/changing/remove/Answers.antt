use Rattle.std.proofs.Common.{ap, ◌∙◌}
use Rattle.std.specs.List.{position}
use Rattle.delivery_machine.specs.Words.{is_member}
use Rattle.delivery_machine.proofs.Places.{removed_there}
use Rattle.topic_members.proofs.changing.remove.Goals as goal

pub returns-in-Some-clause-left : goal.returns-in-Some-clause-left
returns-in-Some-clause-left c =
    c.remove.ensures.items ∙ removed_there (is_member c.args.number) c.args.members.now.items c.in-Some.place c.remove.result (c.in-Some.ensures ∙ ap (position (is_member c.args.number)) c.deref.ensures.value)
