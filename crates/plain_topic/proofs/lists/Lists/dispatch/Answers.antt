use Rattle.std.proofs.Common.{◌≡◌, set, ap, ◌∙◌, rules}
use Rattle.std.specs.List.{position}
use Rattle.std.proofs.lemmas.List.{set-get_or}
use Rattle.delivery_machine.specs.declared.delivery.Delivery.{Delivery}
use Rattle.position_core.specs.declared.held.Held.{Held}
use Rattle.delivery_machine.specs.Words.{is_member, is_named}
use Rattle.delivery_machine.specs.Delivering.{holding}
use Rattle.delivery_machine.proofs.Places.{changed_there, found_there}
use Rattle.plain_lists.specs.Members.{pushed}
use Rattle.plain_topic.specs.StateOf.{state_of}
use Rattle.plain_topic.proofs.Chosen.{has_a_place}
use Rattle.plain_topic.proofs.Handed.{taken_back_there, given_there}
use Rattle.plain_topic.proofs.lists.Lists.dispatch.Goals as goal

pub unreachable-requires : goal.unreachable-requires
unreachable-requires c =
    has_a_place (state_of c.args.self.now) c.index-subscription.result.now c.in-Some-choose.message.now c.in-Some-choose.member.now c.in-Some-choose.ensures.pair
    (c.in_default-place_of_member.ensures ∙ ap (λ n. position (is_member n) c.deref-2.result.now) c.number-consumer.ensures ∙ ap (position (is_member c.in-Some-choose.member.now.number)) c.deref-2.ensures.value)

pub returns-then-is_err-2 : goal.returns-then-is_err-2
returns-then-is_err-2 c =
    let delivery : Delivery = record { message = c.in-Ok.message; count = c.count_of-count.result } in
    let seat = c.in-Some-place_of_member.ensures ∙ ap (position (is_member c.number-consumer.result)) c.deref-2.ensures.value in
    let place = c.in-Some.ensures ∙ ap (position (is_named c.args.name.now)) c.deref.ensures.value in
    let given : c.give.new.self ≡ pushed delivery c.index_mut.result.now = search rules in
    let taken = taken_back_there (is_member c.number-consumer.result) c.args.self.now.members.items c.in-Some-place_of_member.seat delivery c.index_mut.result.now c.give.new.self c.index_mut-then-is_err-2.result.now c.take_back.new.self seat c.index_mut.ensures.value given c.index_mut-then-is_err-2.ensures.value c.take_back.ensures in
    let held : c.hold.new.self ≡ c.index_mut-2.result.now = search rules in
    let kept = ap (set c.args.self.now.subscriptions.items c.in-Some.place) (held ∙ c.index_mut-2.ensures.value) ∙ set-get_or c.args.self.now.subscriptions.items c.in-Some.place c.index_mut-2.result.now in
    let there = found_there (is_named c.args.name.now) c.args.self.now.subscriptions.items c.in-Some.place c.index_mut-2.result.now place in
    search (rules, taken, kept, there)

pub returns : goal.returns
returns c =
    let delivery : Delivery = record { message = c.in-Ok.message; count = c.count_of-count.result } in
    let seat = c.in-Some-place_of_member.ensures ∙ ap (position (is_member c.number-consumer.result)) c.deref-2.ensures.value in
    let place = c.in-Some.ensures ∙ ap (position (is_named c.args.name.now)) c.deref.ensures.value in
    let pushed_there : c.give.new.self ≡ pushed delivery c.index_mut.result.now = search rules in
    let given_now = given_there (is_member c.number-consumer.result) c.args.self.now.members.items c.in-Some-place_of_member.seat delivery c.index_mut.result.now c.give.new.self c.index_mut-3.result.now c.spend.new.self seat c.index_mut.ensures.value pushed_there c.index_mut-3.ensures.value c.spend.ensures in
    let held : Held = record { consumer = c.number-consumer.result; due = c.due_after.result } in
    let held_there : c.hold.new.self ≡ holding c.position-position.result held c.index_mut-2.result.now = search rules in
    let held_now = changed_there (is_named c.args.name.now) (holding c.position-position.result held) c.args.self.now.subscriptions.items c.in-Some.place c.index_mut-2.result.now c.hold.new.self place (held_there ∙ ap (holding c.position-position.result held) c.index_mut-2.ensures.value) in
    let there = found_there (is_named c.args.name.now) c.args.self.now.subscriptions.items c.in-Some.place c.index-subscription.result.now place in
    search (rules, given_now, held_now, there)
