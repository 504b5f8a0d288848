use Rattle.std.proofs.Common.{◌∙◌, sym, refl}
use Rattle.delivery_machine.specs.Words.{is_named}
use Rattle.delivery_machine.proofs.Places.{found_nothing}
use Rattle.topic_parts.specs.declared.parts.Parts.{Parts}
use Rattle.topic_served.specs.Served.{state_in}
use Rattle.seek_events.proofs.Dropped.{dropped_numbers, dropped_state, dropped_tied, dropped_told, refused_by, refused_nowhere}
use Rattle.seek_events.proofs.dropping.drop_subscription.Goals as goal

pub returns-in_default-clause-answers : goal.returns-in_default-clause-answers
returns-in_default-clause-answers c =
    let s = state_in c.args.served.now in
    (refused_nowhere s c.args.name.now (found_nothing (is_named c.args.name.now) s.subscriptions c.in_default.ensures.value), refl)

pub returns-then-is_busy-clause-answers : goal.returns-then-is_busy-clause-answers
returns-then-is_busy-clause-answers c =
    (refused_by c.args.served.now.parts c.args.name.now c.in-Some.place c.index.result.now _ c.requires.bound.tied c.in-Some.ensures.placed c.index.ensures (sym c.is_busy.ensures ∙ c.if-is_busy.true), refl)

pub returns-clause-answers : goal.returns-clause-answers
returns-clause-answers c = (
  refused_by c.args.served.now.parts c.args.name.now c.in-Some.place c.index.result.now _ c.requires.bound.tied c.in-Some.ensures.placed c.index.ensures (sym c.is_busy.ensures ∙ c.if-is_busy.false),
  (
    refl,
    (let old : Parts = c.args.served.now.parts in
        let new : Parts = record old { subscriptions = c.take_subscription.new.subscriptions } in
        dropped_state old new c.args.name.now c.in-Some.place c.in-Some.ensures.placed c.take_subscription.ensures refl),
  ),
)

pub returns-clause-bound : goal.returns-clause-bound
returns-clause-bound c =
    let old : Parts = c.args.served.now.parts in
    let new : Parts = record old { subscriptions = c.take_subscription.new.subscriptions } in
    record {
      numbers = dropped_numbers old new c.args.name.now c.in-Some.place c.in-Some.ensures.placed c.take_subscription.ensures refl c.requires.bound.numbers;
      tied = dropped_tied old new c.args.name.now c.in-Some.place c.in-Some.ensures.placed c.take_subscription.ensures refl c.requires.bound.tied;
      told = dropped_told old new c.args.name.now c.in-Some.place c.in-Some.ensures.placed c.take_subscription.ensures refl c.args.served.now.dispatchers.items c.take_dispatcher.new.dispatchers.items c.requires.bound.told c.take_dispatcher.ensures;
    }
