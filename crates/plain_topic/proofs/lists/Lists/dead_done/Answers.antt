use Rattle.std.proofs.Common.{ap, ◌∙◌, sym, subst}
use Rattle.std.specs.List.{find}
use Rattle.delivery_machine.specs.State.{State, DeadLetter}
use Rattle.delivery_machine.specs.Words.{is_named}
use Rattle.delivery_machine.specs.Run.{Answers}
use Rattle.delivery_machine.specs.declared.event.Event.TheVariants.{DeadDone}
use Rattle.delivery_machine.specs.declared.reply.Reply.TheVariants.{Done}
use Rattle.plain_topic.specs.Letters.{first_moved}
use Rattle.plain_topic.specs.StateOf.{state_of}
use Rattle.plain_topic.proofs.Moved.{moves_letter}
use Rattle.plain_topic.proofs.lists.Lists.dead_done.Goals as goal

pub returns-in-Ok : goal.returns-in-Ok
returns-in-Ok c =
    let s = state_of c.args.self.now in
    let name = c.args.name.now in
    subst (λ (t : State). Answers s (DeadDone name c.args.ordinal) Done t)
    (ap (λ (d : DeadLetter). first_moved s name d.position) (sym c.letter.view_is) ∙ sym c.in-Ok.ensures.ok)
    (moves_letter s name c.args.ordinal c.in-Some.subscription.now c.in-Some-first_safe.letter.now
    (sym (c.in-Some.ensures ∙ ap (find (is_named name)) c.deref.ensures.value))
    (sym c.in-Some-first_safe.ensures)
    (ap (λ (d : DeadLetter). d.ordinal) (sym c.letter.view_is) ∙ c.if-letter-ordinal.false))
