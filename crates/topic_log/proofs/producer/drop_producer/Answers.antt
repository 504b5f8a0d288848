use Rattle.std.proofs.Common.{ap, ◌∙◌, sym}
use Rattle.std.specs.Prelude.{is_some}
use Rattle.std.specs.List.{position}
use Rattle.delivery_machine.specs.Words.{is_producer}
use Rattle.delivery_machine.proofs.Places.{removed_there, none_removed, found_there, found_nothing}
use Rattle.topic_log.proofs.producer.drop_producer.Goals as goal

pub returns-in-Some-clause-known : goal.returns-in-Some-clause-known
returns-in-Some-clause-known c =
    ap is_some (sym (found_there (is_producer c.args.number) c.args.producers.now.items c.in-Some.place c.remove.result (c.in-Some.ensures ∙ ap (position (is_producer c.args.number)) c.deref.ensures.value)))

pub returns-in-Some-clause-left : goal.returns-in-Some-clause-left
returns-in-Some-clause-left c =
    c.remove.ensures.items ∙ removed_there (is_producer c.args.number) c.args.producers.now.items c.in-Some.place c.remove.result (c.in-Some.ensures ∙ ap (position (is_producer c.args.number)) c.deref.ensures.value)

pub returns-in-None-clause-known : goal.returns-in-None-clause-known
returns-in-None-clause-known c =
    ap is_some (sym (found_nothing (is_producer c.args.number) c.args.producers.now.items (c.in-None.ensures ∙ ap (position (is_producer c.args.number)) c.deref.ensures.value)))

pub returns-in-None-clause-left : goal.returns-in-None-clause-left
returns-in-None-clause-left c =
    none_removed (is_producer c.args.number) c.args.producers.now.items (c.in-None.ensures ∙ ap (position (is_producer c.args.number)) c.deref.ensures.value)
