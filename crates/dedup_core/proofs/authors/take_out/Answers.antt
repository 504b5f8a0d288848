use Rattle.std.proofs.Common.{Some, ap, ◌∙◌, sym}
use Rattle.std.specs.List.{position}
use Rattle.delivery_machine.specs.State.{Author}
use Rattle.delivery_machine.specs.Trimming.{is_author}
use Rattle.delivery_machine.proofs.Places.{removed_there, none_removed, found_there, found_nothing}
use Rattle.dedup_core.proofs.authors.take_out.Goals as goal

pub returns-in-Some-clause-found : goal.returns-in-Some-clause-found
returns-in-Some-clause-found c =
    ap (λ (a : Author). Some a) c.remove.ensures.value
    ∙ sym (found_there (is_author c.args.name.now) c.args.authors.now.items c.in-Some.place c.remove.result (c.in-Some.ensures ∙ ap (position (is_author c.args.name.now)) c.deref.ensures.value))

pub returns-in-Some-clause-left : goal.returns-in-Some-clause-left
returns-in-Some-clause-left c =
    c.remove.ensures.items ∙ removed_there (is_author c.args.name.now) c.args.authors.now.items c.in-Some.place c.remove.result (c.in-Some.ensures ∙ ap (position (is_author c.args.name.now)) c.deref.ensures.value)

pub returns-in-None-clause-found : goal.returns-in-None-clause-found
returns-in-None-clause-found c =
    sym (found_nothing (is_author c.args.name.now) c.args.authors.now.items (c.in-None.ensures ∙ ap (position (is_author c.args.name.now)) c.deref.ensures.value))

pub returns-in-None-clause-left : goal.returns-in-None-clause-left
returns-in-None-clause-left c =
    none_removed (is_author c.args.name.now) c.args.authors.now.items (c.in-None.ensures ∙ ap (position (is_author c.args.name.now)) c.deref.ensures.value)
