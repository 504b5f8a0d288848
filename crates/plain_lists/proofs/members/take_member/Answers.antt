use Rattle.std.proofs.Common.{ap, ◌∙◌, sym, Some}
use Rattle.std.specs.List.{position}
use Rattle.delivery_machine.specs.Words.{is_member}
use Rattle.delivery_machine.proofs.Places.{removed_there, none_removed, found_there, found_nothing}
use Rattle.plain_lists.proofs.members.take_member.Goals as goal

pub returns-in-Some-clause-taken : goal.returns-in-Some-clause-taken
returns-in-Some-clause-taken c =
    ap Some c.remove.ensures.value ∙ sym (found_there (is_member c.args.number) c.args.members.now.items c.in-Some.place c.remove.result (c.in-Some.ensures ∙ ap (position (is_member c.args.number)) c.deref.ensures.value))

pub returns-in-Some-clause-left : goal.returns-in-Some-clause-left
returns-in-Some-clause-left c =
    c.remove.ensures.items ∙ removed_there (is_member c.args.number) c.args.members.now.items c.in-Some.place c.remove.result (c.in-Some.ensures ∙ ap (position (is_member c.args.number)) c.deref.ensures.value)

pub returns-in-None-clause-taken : goal.returns-in-None-clause-taken
returns-in-None-clause-taken c =
    sym (found_nothing (is_member c.args.number) c.args.members.now.items (c.in-None.ensures ∙ ap (position (is_member c.args.number)) c.deref.ensures.value))

pub returns-in-None-clause-left : goal.returns-in-None-clause-left
returns-in-None-clause-left c =
    none_removed (is_member c.args.number) c.args.members.now.items (c.in-None.ensures ∙ ap (position (is_member c.args.number)) c.deref.ensures.value)
