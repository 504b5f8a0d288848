use Rattle.std.proofs.Common.{◌≡◌, ◌+◌, ℤ, None, length, refl, subst, w64}
use Rattle.std.proofs.lemmas.Int.{to_z-of_z}
use Rattle.delivery_machine.specs.Producing.{with_message}
use Rattle.delivery_machine.specs.Refusals.{refusal_of}
use Rattle.delivery_machine.specs.Run.{Answers}
use Rattle.delivery_machine.specs.declared.event.Event.TheVariants.{Publish}
use Rattle.delivery_machine.specs.declared.reply.Reply.TheVariants.{Published}
use Rattle.topic_parts.specs.Parts.{log_of}
use Rattle.topic_served.specs.Served.{state_in}
use Rattle.log_events.proofs.SameLog.{as_it_was, bound_as_it_was}
use Rattle.log_events.proofs.Grown.{bound_grown, published}
use Rattle.log_events.proofs.publishing.publish.Goals as goal

pub returns-in-Err-clause-answers : goal.returns-in-Err-clause-answers
returns-in-Err-clause-answers c =
    let s = state_in c.args.served.now in
    subst (λ (z : ℤ). Answers s (Publish c.args.producer z c.args.body.now c.args.now) c.in-Err.reply s) (to_z-of_z w64 c.args.sequence c.ranges.sequence)
    (c.in-Err.ensures.told s)

pub returns-in-Ok-append-clause-answers : goal.returns-in-Ok-append-clause-answers
returns-in-Ok-append-clause-answers c =
    let old = c.args.served.now in
    let s = state_in old in
    let e = c.in-Ok.message in
    published old c.append.new.log e c.requires (c.in-Ok-append.ensures.ok s)
    (Publish c.args.producer c.args.sequence c.args.body.now c.args.now) c.position-position.result c.had.result
    c.position-position.ensures c.had.ensures.value
    (subst (λ (z : ℤ). Answers s (Publish c.args.producer z c.args.body.now c.args.now) (Published e.position (old.parts.log.gone + length (log_of old.parts) + 1)) (with_message s e)) (to_z-of_z w64 c.args.sequence c.ranges.sequence)
    (c.in-Ok.ensures.message.step s))

pub returns-in-Ok-append-clause-bound : goal.returns-in-Ok-append-clause-bound
returns-in-Ok-append-clause-bound c =
    let old = c.args.served.now in
    bound_grown old c.append.new.log c.in-Ok.message c.requires (c.in-Ok-append.ensures.ok (state_in old)) c.len-length.ensures.rising c.append.ensures.agrees

pub returns-in-Err-append-clause-answers : goal.returns-in-Err-append-clause-answers
returns-in-Err-append-clause-answers c =
    let old = c.args.served.now in
    let s = state_in old in (
      refl,
      subst (λ (z : ℤ). refusal_of s (Publish c.args.producer z c.args.body.now c.args.now) ≡ None) (to_z-of_z w64 c.args.sequence c.ranges.sequence) (c.in-Ok.ensures.message.step s).0,
      as_it_was old c.append.new.log (c.in-Err-append.ensures.err s),
    )

pub returns-in-Err-append-clause-bound : goal.returns-in-Err-append-clause-bound
returns-in-Err-append-clause-bound c =
    let old = c.args.served.now in
    bound_as_it_was old c.append.new.log (c.in-Err-append.ensures.err (state_in old)) c.append.ensures.agrees c.requires.bound
