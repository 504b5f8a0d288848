use Rattle.std.proofs.Common.{◌≡◌, ◌∙◌, true, false, ap, sym, refl}
use Rattle.std.specs.FinMap as map_of
use Rattle.position_core.specs.Kind.{is_in_order}
use Rattle.delivery_machine.specs.State.{DeadLetter}
use Rattle.delivery_machine.specs.Dying.{dying_at}
use Rattle.topic_subscriptions.specs.Placed.{Placed, is_placed, sub_in}
use Rattle.topic_parts.specs.Holding.{buried}
use Rattle.topic_parts.specs.Parts.{log_of, state_of}
use Rattle.topic_parts.proofs.Changing.{named_sub, read_twice, there_is}
use Rattle.topic_parts.proofs.Held.{it}
use Rattle.topic_served.specs.Served.{state_in}
use Rattle.topic_served.proofs.Settled.{well_of}
use Rattle.topic_served.proofs.Telling.{place_within}
use Rattle.tick_events.proofs.Answered.{is_dead, is_quiet, is_released, is_rewound, no_memory, not_there}
use Rattle.tick_events.proofs.Deaths.{letter_is, no_letter}
use Rattle.tick_events.proofs.Due.{due_is_pending, due_there, none_due_in}
use Rattle.tick_events.proofs.ticking.tick.Goals as goal

pub returns-in_default-clause-answers : goal.returns-in_default-clause-answers
returns-in_default-clause-answers c = not_there (state_in c.args.served.now) c.args.name.now c.args.now c.in_default.ensures.value

pub returns-in_default-first_due-clause-answers :
    goal.returns-in_default-first_due-clause-answers
returns-in_default-first_due-clause-answers c =
    let t = c.args.served.now.parts in
    let x = c.index.result.now in
    let sub = sub_in (log_of t) x in
    is_quiet (state_of t) c.args.name.now c.args.now sub (named_sub (log_of t) t.subscriptions.items c.args.name.now c.in-Some.place c.in-Some.ensures.placed x c.index.ensures)
    (none_due_in (log_of t) sub c.args.now c.in_default-first_due.ensures.none)

pub rewind-count-requires-clause-well : goal.rewind-count-requires-clause-well
rewind-count-requires-clause-well c = well_of (state_in c.args.served.now) c.requires.reached

pub redeliver-requires-clause-well : goal.redeliver-requires-clause-well
redeliver-requires-clause-well c = well_of (state_in c.args.served.now) c.requires.reached

pub bury-requires-clause-well : goal.bury-requires-clause-well
bury-requires-clause-well c = well_of (state_in c.args.served.now) c.requires.reached

pub redeliver-requires-clause-pending : goal.redeliver-requires-clause-pending
redeliver-requires-clause-pending c p at =
    let t = c.args.served.now.parts in
    let q = c.in-Some-first_due.position in
    ap (λ (z : Placed). map_of.contains_key z.pending.pending q) (sym (there_is t.subscriptions.items c.in-Some.place c.index.result.now p c.index.ensures (sym at)))
    ∙ due_is_pending c.args.now (map_of.get c.index.result.now.pending.pending q) c.in-Some-first_due.ensures.some

pub returns-then-is_in_order-clause-answers : goal.returns-then-is_in_order-clause-answers
returns-then-is_in_order-clause-answers c =
    let t = c.args.served.now.parts in
    let name = c.args.name.now in
    let place = c.in-Some.place in
    let named = c.in-Some.ensures.placed in
    let x = c.index.result.now in
    let at = it t place (place_within (is_placed name) t.subscriptions.items place named) x c.index.ensures in
    let same = read_twice (log_of t) t.subscriptions.items name place named c.index-2.result.now x c.index-2.ensures c.index.ensures in
    let order : is_in_order x.kind ≡ true = sym (c.is_in_order.ensures ∙ ap is_in_order (c.kind.ensures ∙ ap (λ (p : Placed). p.kind) same)) ∙ c.if-is_in_order.true in
    is_rewound (state_of t) name c.args.now (sub_in (log_of t) x) (named_sub (log_of t) t.subscriptions.items name place named x c.index.ensures) (state_in c.rewind-count.new.served) c.rewind-count.result order
    (due_there t name place x c.args.now c.in-Some-first_due.position named c.index.ensures c.requires.bound.tied c.in-Some-first_due.ensures.some)
    (c.rewind-count.ensures.count x at) (c.rewind-count.ensures.state x at)

pub returns-in-Ok-None-clause-answers : goal.returns-in-Ok-None-clause-answers
returns-in-Ok-None-clause-answers c =
    let t = c.args.served.now.parts in
    let s = state_of t in
    let name = c.args.name.now in
    let place = c.in-Some.place in
    let named = c.in-Some.ensures.placed in
    let q = c.in-Some-first_due.position in
    let x = c.index.result.now in
    let sub = sub_in (log_of t) x in
    let at = it t place (place_within (is_placed name) t.subscriptions.items place named) x c.index.ensures in
    let same = read_twice (log_of t) t.subscriptions.items name place named c.index-2.result.now x c.index-2.ensures c.index.ensures in
    let order : is_in_order x.kind ≡ false = sym (c.is_in_order.ensures ∙ ap is_in_order (c.kind.ensures ∙ ap (λ (p : Placed). p.kind) same)) ∙ c.if-is_in_order.false in
    is_released s name c.args.now sub (named_sub (log_of t) t.subscriptions.items name place named x c.index.ensures) (state_in c.redeliver.new.served) q order c.in-Some-first_due.ensures.some
    (no_letter s q (dying_at s sub q) (sym c.in-Ok-None.field-0-is ∙ c.in-Ok-None.ensures x at)) c.redeliver.ensures.state

pub returns-in-Ok-clause-answers : goal.returns-in-Ok-clause-answers
returns-in-Ok-clause-answers c =
    let t = c.args.served.now.parts in
    let s = state_of t in
    let name = c.args.name.now in
    let place = c.in-Some.place in
    let named = c.in-Some.ensures.placed in
    let q = c.in-Some-first_due.position in
    let x = c.index.result.now in
    let sub = sub_in (log_of t) x in
    let at = it t place (place_within (is_placed name) t.subscriptions.items place named) x c.index.ensures in
    let same = read_twice (log_of t) t.subscriptions.items name place named c.index-2.result.now x c.index-2.ensures c.index.ensures in
    let order : is_in_order x.kind ≡ false = sym (c.is_in_order.ensures ∙ ap is_in_order (c.kind.ensures ∙ ap (λ (p : Placed). p.kind) same)) ∙ c.if-is_in_order.false in
    let letter = c.in-Ok-Some.letter in
    let dies = letter_is s q letter (dying_at s sub q) (sym c.in-Ok-Some.field-0-is ∙ c.in-Ok-Some.ensures x at) in
    is_dead s name c.args.now sub (named_sub (log_of t) t.subscriptions.items name place named x c.index.ensures) (state_in c.bury.new.served) q dies.0 c.letter.inside.ordinal
    order c.in-Some-first_due.ensures.some dies.1 (ap (λ (l : DeadLetter). l.ordinal) c.letter.view_is ∙ ap (λ (l : DeadLetter). l.ordinal) dies.2)
    (c.in-Ok.ensures.ok ∙ ap (λ (l : DeadLetter). buried s name l) dies.2)

pub returns-in-Err-bury-clause-answers : goal.returns-in-Err-bury-clause-answers
returns-in-Err-bury-clause-answers c =
    let t = c.args.served.now.parts in
    let x = c.index.result.now in
    no_memory (state_of t) c.args.name.now c.args.now (sub_in (log_of t) x) (named_sub (log_of t) t.subscriptions.items c.args.name.now c.in-Some.place c.in-Some.ensures.placed x c.index.ensures)
    (state_in c.bury.new.served) c.in-Err-bury.ensures.err

pub returns-in-Err-clause-answers : goal.returns-in-Err-clause-answers
returns-in-Err-clause-answers c =
    let t = c.args.served.now.parts in
    let x = c.index.result.now in
    no_memory (state_of t) c.args.name.now c.args.now (sub_in (log_of t) x) (named_sub (log_of t) t.subscriptions.items c.args.name.now c.in-Some.place c.in-Some.ensures.placed x c.index.ensures)
    (state_of t) refl
