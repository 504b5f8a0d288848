use Rattle.std.proofs.Common.{refl, sym}
use Rattle.std.specs.List.{find}
use Rattle.std.proofs.lemmas.Option.{slice_get_within}
use Rattle.delivery_machine.specs.Words.{is_named}
use Rattle.topic_served.proofs.Offered.{offered_there}
use Rattle.topic_subscriptions.specs.Placed.{is_placed, sub_in}
use Rattle.topic_parts.specs.Parts.{log_of}
use Rattle.topic_parts.proofs.Changing.{named_sub}
use Rattle.topic_served.specs.Served.{state_in}
use Rattle.topic_served.proofs.Settled.{well_of}
use Rattle.topic_served.proofs.Telling.{one_stands}
use Rattle.delivery_events.proofs.Named.{at_some, present}
use Rattle.delivery_events.proofs.Offered.{member_found, message_is, sent_answers}
use Rattle.delivery_events.proofs.dispatching.send_next.Goals as goal

pub returns-in_default-clause-answers : goal.returns-in_default-clause-answers
returns-in_default-clause-answers c =
    let t = c.args.served.now.parts in
    let s = state_in c.args.served.now in
    let x = one_stands (is_placed c.args.name.now) t.subscriptions.items c.args.place c.requires.place in
    let sub = sub_in (log_of t) x.0 in
    let there = named_sub (log_of t) t.subscriptions.items c.args.name.now c.args.place c.requires.place x.0 x.2 in
    (present s c.args.name.now sub there, at_some (find (is_named c.args.name.now) s.subscriptions) sub _ there (c.in_default.ensures.none x.0 (sym x.1), refl))

pub delivery_of-requires-clause-index : goal.delivery_of-requires-clause-index
delivery_of-requires-clause-index c =
    let t = c.args.served.now.parts in
    let x = one_stands (is_placed c.args.name.now) t.subscriptions.items c.args.place c.requires.place in
    let good = c.in-Some.ensures.some x.0 (sym x.1) in
    slice_get_within (log_of t) c.in-Some.offer.index good.message (offered_there (state_in c.args.served.now) (sub_in (log_of t) x.0) c.in-Some.offer good)

pub returns-in_default-delivery_of-clause-answers :
    goal.returns-in_default-delivery_of-clause-answers
returns-in_default-delivery_of-clause-answers c =
    let t = c.args.served.now.parts in
    let x = one_stands (is_placed c.args.name.now) t.subscriptions.items c.args.place c.requires.place in
    (refl, present (state_in c.args.served.now) c.args.name.now (sub_in (log_of t) x.0) (named_sub (log_of t) t.subscriptions.items c.args.name.now c.args.place c.requires.place x.0 x.2), refl)

pub returns-in-Ok-send-clause-answers : goal.returns-in-Ok-send-clause-answers
returns-in-Ok-send-clause-answers c =
    let t = c.args.served.now.parts in
    let s = state_in c.args.served.now in
    let name = c.args.name.now in
    let offer = c.in-Some.offer in
    let x = one_stands (is_placed name) t.subscriptions.items c.args.place c.requires.place in
    let sub = sub_in (log_of t) x.0 in
    let there = named_sub (log_of t) t.subscriptions.items name c.args.place c.requires.place x.0 x.2 in
    let good = c.in-Some.ensures.some x.0 (sym x.1) in
    let same = message_is c.in-Ok.delivery.message good.message _ c.in-Ok.ensures.message (offered_there s sub offer good) in
    sent_answers s (state_in c.send.new.served) name c.args.now sub offer c.in-Ok.delivery c.held_by-held.result c.position-position.result there good same
    (c.in-Ok.ensures.count x.0 (sym x.1)) c.held_by-held.ensures.consumer (c.held_by-held.ensures.due good.member (member_found s sub offer (well_of s c.requires.settled.reached) good))
    c.position-position.ensures c.in-Ok-send.ensures.ok

pub returns-in-Err-clause-answers : goal.returns-in-Err-clause-answers
returns-in-Err-clause-answers c =
    let t = c.args.served.now.parts in
    let x = one_stands (is_placed c.args.name.now) t.subscriptions.items c.args.place c.requires.place in
    (refl, present (state_in c.args.served.now) c.args.name.now (sub_in (log_of t) x.0) (named_sub (log_of t) t.subscriptions.items c.args.name.now c.args.place c.requires.place x.0 x.2), c.in-Err.ensures.err)
