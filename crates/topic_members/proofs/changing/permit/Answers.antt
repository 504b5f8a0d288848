use Rattle.std.proofs.Common.{refl, ap, ◌∙◌, position}
use Rattle.delivery_machine.specs.Words.{is_member}
use Rattle.delivery_machine.specs.Joining.{permitted}
use Rattle.topic_members.proofs.Numbered.{numbers_there}
use Rattle.topic_members.proofs.changing.permit.Goals as goal

pub returns-in-Ok-clause-numbers : goal.returns-in-Ok-clause-numbers
returns-in-Ok-clause-numbers c =
    numbers_there (is_member c.args.number) (permitted c.args.permits) (λ _. refl) c.args.members.now.items c.in-Some.place c.index_mut.result.now c.permit.new.self
    (c.in-Some.ensures ∙ ap (position (is_member c.args.number)) c.deref.ensures.value)
    (c.in-Ok.ensures.ok ∙ ap (permitted c.args.permits) c.index_mut.ensures.value)
