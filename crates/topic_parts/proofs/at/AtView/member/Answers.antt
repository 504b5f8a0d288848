use Rattle.std.proofs.Common.{◌∙◌, sym, ap, List, ℕ, slice_get}
use Rattle.std.specs.Option.{option_map}
use Rattle.delivery_machine.specs.Words.{has_room}
use Rattle.dispatch_core.specs.Offers.{seen_of}
use Rattle.topic_subscriptions.specs.Placed.{sub_in}
use Rattle.topic_parts.specs.Parts.{state_of}
use Rattle.topic_parts.proofs.Seen.{none_in_line, one_in_line, seen_is, found_none, few_in_line}
use Rattle.topic_parts.proofs.at.AtView.member.Goals as goal

pub returns-in_default-clause-seen : goal.returns-in_default-clause-seen
returns-in_default-clause-seen c =
    let at = c.args.self.now in
    let t = at.parts.now in
    let p = at.subscription.now in
    let none = ap (λ (ns : List ℕ). slice_get ns c.args.place) (sym at.placed.line) ∙ sym c.number_at.ensures.value ∙ c.in_default.is in
    sym (ap (option_map (seen_of (state_of t) (sub_in t.log.log.log p))) (none_in_line p.name t.members.members c.args.place none))

pub returns-in_default-clause-few : goal.returns-in_default-clause-few
returns-in_default-clause-few c =
    let at = c.args.self.now in
    few_in_line at.subscription.now.name at.parts.now.members.members at.subscription.now.line at.placed.line c.number_at.ensures.few

pub returns-in-Some-get_near-clause-seen : goal.returns-in-Some-get_near-clause-seen
returns-in-Some-get_near-clause-seen c =
    let at = c.args.self.now in
    let t = at.parts.now in
    let p = at.subscription.now in
    let one = one_in_line p.name t.members.members c.args.place c.in-Some.consumer at.numbers (ap (λ (ns : List ℕ). slice_get ns c.args.place) (sym at.placed.line) ∙ sym c.number_at.ensures.value ∙ c.in-Some.is) in
    seen_is (has_room (state_of t) (sub_in t.log.log.log p)) c.in-Some.consumer c.level.result c.has_room.result c.in-Some-get_near.member.now one.0 (c.in-Some-get_near.ensures ∙ one.3) one.2 c.level.ensures c.has_room.ensures
    ∙ sym (ap (option_map (seen_of (state_of t) (sub_in t.log.log.log p))) one.1)

pub returns-in-Some-get_near-clause-few : goal.returns-in-Some-get_near-clause-few
returns-in-Some-get_near-clause-few c =
    let at = c.args.self.now in
    few_in_line at.subscription.now.name at.parts.now.members.members at.subscription.now.line at.placed.line c.number_at.ensures.few

pub returns-in-None-clause-seen : goal.returns-in-None-clause-seen
returns-in-None-clause-seen c =
    let at = c.args.self.now in
    let t = at.parts.now in
    let p = at.subscription.now in
    let one = one_in_line p.name t.members.members c.args.place c.in-Some.consumer at.numbers (ap (λ (ns : List ℕ). slice_get ns c.args.place) (sym at.placed.line) ∙ sym c.number_at.ensures.value ∙ c.in-Some.is) in
    absurd (found_none _ one.0 c.in-None.ensures one.3)

pub returns-in-None-clause-few : goal.returns-in-None-clause-few
returns-in-None-clause-few c =
    let at = c.args.self.now in
    few_in_line at.subscription.now.name at.parts.now.members.members at.subscription.now.line at.placed.line c.number_at.ensures.few
