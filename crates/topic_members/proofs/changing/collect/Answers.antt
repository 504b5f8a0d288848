use Rattle.std.proofs.Common.{refl, ap, ◌∙◌, position}
use Rattle.delivery_machine.specs.Words.{is_member, emptied}
use Rattle.topic_members.proofs.Numbered.{numbers_there}
use Rattle.topic_members.proofs.changing.collect.Goals as goal

pub returns-clause-numbers : goal.returns-clause-numbers
returns-clause-numbers c =
    numbers_there (is_member c.args.number) emptied (λ _. refl) c.args.members.now.items c.in-Some.place c.index_mut.result.now c.take_out.new.self
    (c.in-Some.ensures ∙ ap (position (is_member c.args.number)) c.deref.ensures.value)
    (c.take_out.ensures.left ∙ ap emptied c.index_mut.ensures.value)
