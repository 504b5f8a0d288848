use Rattle.std.proofs.Common.{ap, ◌∙◌, ◌==◌}
use Rattle.std.specs.List.{position}
use Rattle.delivery_machine.proofs.Places.{removed_there, none_removed}
use Rattle.topic_shared.proofs.room.remove.Goals as goal

pub returns-in-Some : goal.returns-in-Some
returns-in-Some c =
    c.remove.ensures.items ∙ removed_there (λ n. n == c.args.number) c.args.numbers.now.items c.in-Some.place c.remove.result (c.in-Some.ensures ∙ ap (position (λ n. n == c.args.number)) c.deref.ensures.value)

pub returns-in-None : goal.returns-in-None
returns-in-None c = none_removed (λ n. n == c.args.number) c.args.numbers.now.items (c.in-None.ensures ∙ ap (position (λ n. n == c.args.number)) c.deref.ensures.value)
