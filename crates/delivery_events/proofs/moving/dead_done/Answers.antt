use Rattle.std.proofs.Common.{◌≡◌, ◌∙◌, ap, refl, sym, subst, Some}
use Rattle.std.specs.Option.{option_map}
use Rattle.position_core.specs.declared.position.Position.{Position}
use Rattle.log_pieces.specs.Pieces.{index_of}
use Rattle.delivery_machine.specs.State.{DeadLetter}
use Rattle.delivery_machine.specs.Words.{is_named}
use Rattle.delivery_machine.specs.Refusals.{moving_refused}
use Rattle.delivery_machine.specs.Dying.{moved, moving}
use Rattle.delivery_machine.proofs.Places.{found_nothing}
use Rattle.dedup_core.specs.Sequences.{AgreesWith}
use Rattle.dead_core.specs.Letters.{next_safe}
use Rattle.dispatch_core.specs.Changes.{Gone}
use Rattle.topic_served.proofs.Gone.{first_letter, gone_moved}
use Rattle.topic_log.specs.Written.{all_of, Written}
use Rattle.topic_subscriptions.specs.Placed.{Placed, is_placed, sub_in}
use Rattle.topic_parts.specs.Parts.{log_of, state_of}
use Rattle.topic_parts.proofs.Changing.{named_sub, there_is}
use Rattle.topic_parts.proofs.Sought.{formed_at}
use Rattle.topic_served.specs.Served.{state_in}
use Rattle.topic_served.proofs.Settled.{well_of}
use Rattle.topic_served.proofs.Telling.{about, one_stands, place_within, told_there}
use Rattle.delivery_events.proofs.Letters.{letter_stands, may_move, may_not_move, moves}
use Rattle.delivery_events.proofs.moving.dead_done.Goals as goal

pub returns-in_default-clause-answers : goal.returns-in_default-clause-answers
returns-in_default-clause-answers c = (ap (moving_refused c.args.ordinal) (found_nothing (is_named c.args.name.now) (state_in c.args.served.now).subscriptions c.in_default.ensures.value), refl)

pub returns-in_default-first_position-clause-answers :
    goal.returns-in_default-first_position-clause-answers
returns-in_default-first_position-clause-answers c =
    let t = c.args.served.now.parts in
    let x = c.index.result.now in (
      may_not_move (state_in c.args.served.now) c.args.name.now (sub_in (log_of t) x) c.args.ordinal
          (named_sub (log_of t) t.subscriptions.items c.args.name.now c.in-Some.place c.in-Some.ensures.placed x c.index.ensures) c.in_default-first_position.ensures.none,
      refl,
    )

pub unreachable-requires : goal.unreachable-requires
unreachable-requires c =
    let t = c.args.served.now.parts in
    let x = one_stands (is_placed c.args.name.now) t.subscriptions.items c.in-Some.place c.in-Some.ensures.placed in
    let next = c.in-Some-first_position.ensures.some in
    letter_stands (log_of t) (sub_in (log_of t) c.index.result.now) next.letter c.in-Some-first_position.position
    (formed_at t c.in-Some.place c.index.result.now (well_of (state_in c.args.served.now) c.requires.reached) (place_within (is_placed c.args.name.now) t.subscriptions.items c.in-Some.place c.in-Some.ensures.placed) c.index.ensures).dead.messages
    next.first next.stands c.in_default-index_of.ensures

pub move_first-requires-clause-well : goal.move_first-requires-clause-well
move_first-requires-clause-well c = well_of (state_in c.args.served.now) c.requires.reached

pub move_first-requires-clause-first : goal.move_first-requires-clause-first
move_first-requires-clause-first c p at =
    let next = c.in-Some-first_position.ensures.some in
    let same = there_is c.args.served.now.parts.subscriptions.items c.in-Some.place c.index.result.now p c.index.ensures (sym at) in
    ap (λ (y : Placed). option_map (λ (d : DeadLetter). d.position) (next_safe y.letters)) (sym same)
    ∙ ap (option_map (λ (d : DeadLetter). d.position)) next.first ∙ ap (λ (q : Position). Some q) next.stands

pub returns-in-Ok-clause-answers : goal.returns-in-Ok-clause-answers
returns-in-Ok-clause-answers c =
    let t = c.args.served.now.parts in
    let x = c.index.result.now in
    let next = c.in-Some-first_position.ensures.some in
    moves (state_in c.args.served.now) (state_of c.move_first.new.self) c.args.name.now (sub_in (log_of t) x) next.letter c.args.ordinal
    (named_sub (log_of t) t.subscriptions.items c.args.name.now c.in-Some.place c.in-Some.ensures.placed x c.index.ensures) next.first next.of_ordinal
    (c.in-Ok.ensures.ok c.args.name.now next.letter c.in-Some.ensures.placed
    (λ p at. subst (λ (y : Placed). next_safe y.letters ≡ Some next.letter) (there_is t.subscriptions.items c.in-Some.place x p c.index.ensures (sym at)) next.first))

pub returns-in-Ok-clause-bound : goal.returns-in-Ok-clause-bound
returns-in-Ok-clause-bound c =
    let old = c.args.served.now.parts in
    let name = c.args.name.now in
    let next = c.in-Some-first_position.ensures.some in
    let there = c.in-Some.ensures.placed in
    let x = one_stands (is_placed name) old.subscriptions.items c.in-Some.place there in
    let sub = sub_in (log_of old) x.0 in
    let first = subst (λ (y : Placed). next_safe y.letters ≡ Some next.letter) (there_is old.subscriptions.items c.in-Some.place c.index.result.now x.0 c.index.ensures x.1) next.first in
    let seen = ap (λ (q : Position). index_of q (log_of old)) next.stands ∙ sym c.in-Some-index_of.ensures in
    let happens = gone_moved (state_of old) name c.in-Some.place sub next.letter c.in-Some-index_of.index (about old name c.in-Some.place x.0 next.letter.position c.in-Some-index_of.index c.len-length.ensures.rising there x.1 seen) (first_letter sub next.letter first) in
    record {
      numbers = subst (λ (w : Written). AgreesWith (all_of w) w.numbers) (sym c.in-Ok.ensures.log) c.requires.bound.numbers;
      tied = c.in-Ok.ensures.tied;
      told = told_there c.args.served.now.dispatchers.items old c.move_first.new.self c.at-view.result.parts.now (moved (state_of old) name next.letter) c.in-Some.place (Gone c.in-Some-index_of.index) sub (moving next.letter sub) c.at-view.result.subscription.now c.index_mut.result.now c.on_gone.new.self
          c.requires.bound.told happens
          (c.in-Ok.ensures.ok name next.letter there (λ p at. subst (λ (y : Placed). next_safe y.letters ≡ Some next.letter) (there_is old.subscriptions.items c.in-Some.place c.index.result.now p c.index.ensures (sym at)) next.first))
          c.at-view.ensures.parts c.at-view.ensures.subscription c.index_mut.ensures.value c.on_gone.ensures;
    }

pub returns-in-Err-clause-answers : goal.returns-in-Err-clause-answers
returns-in-Err-clause-answers c =
    let t = c.args.served.now.parts in
    let x = c.index.result.now in
    let next = c.in-Some-first_position.ensures.some in (
      refl,
      may_move (state_in c.args.served.now) c.args.name.now (sub_in (log_of t) x) next.letter c.args.ordinal
          (named_sub (log_of t) t.subscriptions.items c.args.name.now c.in-Some.place c.in-Some.ensures.placed x c.index.ensures) next.first next.of_ordinal,
      ap state_of c.in-Err.ensures.err,
    )
