use Rattle.std.proofs.Common.{ap, ◌∙◌}
use Rattle.std.specs.List.{position}
use Rattle.delivery_machine.specs.Trimming.{is_author}
use Rattle.delivery_machine.proofs.Places.{removed_there, none_removed}
use Rattle.plain_lists.proofs.authors.leave_out.Goals as goal

pub returns-in-Some : goal.returns-in-Some
returns-in-Some c =
    c.remove.ensures.items ∙ removed_there (is_author c.args.name.now) c.args.authors.now.items c.in-Some.place c.remove.result (c.in-Some.ensures ∙ ap (position (is_author c.args.name.now)) c.deref.ensures.value)

pub returns-in-None : goal.returns-in-None
returns-in-None c =
    none_removed (is_author c.args.name.now) c.args.authors.now.items (c.in-None.ensures ∙ ap (position (is_author c.args.name.now)) c.deref.ensures.value)
