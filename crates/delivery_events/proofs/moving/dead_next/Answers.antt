use Rattle.std.proofs.Common.{◌∙◌, ap, refl}
use Rattle.delivery_machine.specs.State.{DeadLetter}
use Rattle.topic_subscriptions.specs.Placed.{sub_in}
use Rattle.topic_parts.specs.Parts.{log_of}
use Rattle.topic_parts.proofs.Changing.{named_sub}
use Rattle.topic_served.specs.Served.{state_in}
use Rattle.delivery_events.proofs.Letters.{none_shown, same_target, shown}
use Rattle.delivery_events.proofs.Named.{absent, present}
use Rattle.delivery_events.proofs.moving.dead_next.Goals as goal

pub returns-in_default : goal.returns-in_default
returns-in_default c = (absent (state_in c.args.served.now) c.args.name.now c.in_default.ensures.value, refl)

pub returns-in_default-next_letter : goal.returns-in_default-next_letter
returns-in_default-next_letter c =
    let t = c.args.served.now.parts in
    let x = c.index-subscription.result.now in
    none_shown (state_in c.args.served.now) c.args.name.now (sub_in (log_of t) x)
    (named_sub (log_of t) t.subscriptions.items c.args.name.now c.in-Some.place c.in-Some.ensures.placed x c.index-subscription.ensures) c.in_default-next_letter.ensures.none

pub returns-in_default-clone : goal.returns-in_default-clone
returns-in_default-clone c =
    let t = c.args.served.now.parts in
    let x = c.index-subscription.result.now in (
      refl,
      present (state_in c.args.served.now) c.args.name.now (sub_in (log_of t) x)
          (named_sub (log_of t) t.subscriptions.items c.args.name.now c.in-Some.place c.in-Some.ensures.placed x c.index-subscription.ensures),
      refl,
    )

pub returns-in_default-clone-2 : goal.returns-in_default-clone-2
returns-in_default-clone-2 c =
    let t = c.args.served.now.parts in
    let x = c.index-subscription.result.now in (
      refl,
      present (state_in c.args.served.now) c.args.name.now (sub_in (log_of t) x)
          (named_sub (log_of t) t.subscriptions.items c.args.name.now c.in-Some.place c.in-Some.ensures.placed x c.index-subscription.ensures),
      refl,
    )

pub returns : goal.returns
returns c =
    let t = c.args.served.now.parts in
    let x = c.index-subscription.result.now in
    let letter = c.in-Some-next_letter.letter.now in
    shown (state_in c.args.served.now) c.args.name.now (sub_in (log_of t) x) letter c.in-Some-next_letter.message.now c.in-Ok.message c.in-Ok-clone.target c.letter.inside.ordinal
    (named_sub (log_of t) t.subscriptions.items c.args.name.now c.in-Some.place c.in-Some.ensures.placed x c.index-subscription.ensures) c.in-Some-next_letter.ensures.pair
    c.in-Ok.ensures.cases (same_target c.in-Ok-clone.target letter (c.in-Ok-clone.ensures.cases.0 ∙ ap (λ (d : DeadLetter). d.target.tenant) c.letter.view_is) (c.in-Ok-clone.ensures.cases.1.0 ∙ ap (λ (d : DeadLetter). d.target.namespace) c.letter.view_is) (c.in-Ok-clone.ensures.cases.1.1 ∙ ap (λ (d : DeadLetter). d.target.topic) c.letter.view_is)) (ap (λ (d : DeadLetter). d.ordinal) c.letter.view_is)
