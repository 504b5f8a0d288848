use Rattle.std.proofs.Common.{◌≡◌, ◌∙◌, ℕ, Option, Some, None, refl, ap, ap₂, sym, subst}
use Rattle.std.specs.Prelude.{is_some, IsSomeAnd, if◌then◌else◌}
use Rattle.std.specs.List.{find, position}
use Rattle.position_core.specs.declared.fault.Fault.TheVariants.{NoSession}
use Rattle.delivery_machine.specs.State.{State, Member}
use Rattle.delivery_machine.specs.Words.{active_at, is_member}
use Rattle.delivery_machine.specs.Joining.{taken_over, without_member}
use Rattle.delivery_machine.specs.WellFormed.{NamesRise}
use Rattle.topic_subscriptions.specs.Placed.{is_placed, sub_in}
use Rattle.topic_parts.specs.Parts.{log_of}
use Rattle.topic_parts.proofs.Changing.{named_sub}
use Rattle.topic_served.specs.Served.{state_in}
use Rattle.topic_served.proofs.Settled.{well_of}
use Rattle.topic_served.proofs.Telling.{one_stands}
use Rattle.member_events.specs.Active.{active_in_order}
use Rattle.member_events.proofs.Active.{known_before_leaving, same_takeover}
use Rattle.member_events.proofs.Standing.{are_ordered, one_of, same_place, still_member, still_named}
use Rattle.member_events.proofs.leaving.leave.Goals as goal

pub let_go-requires-clause-ordered : goal.let_go-requires-clause-ordered
let_go-requires-clause-ordered c =
    let t = c.args.served.now.parts in
    subst NamesRise (sym c.release_held_by.ensures.same.kept.names) (are_ordered t (well_of (state_in c.args.served.now) c.requires.reached).names)

pub let_go-requires-clause-member : goal.let_go-requires-clause-member
let_go-requires-clause-member c = still_member c.args.served.now.parts c.release_held_by.new.served.parts c.in-Some.place c.args.consumer c.release_held_by.ensures.same.kept c.in-Some.ensures.some

pub take_over-requires-clause-stands : goal.take_over-requires-clause-stands
take_over-requires-clause-stands c =
    let t = c.args.served.now.parts in
    let u = c.release_held_by.new.served.parts in
    let m = one_of (λ (m : Member). Some c.in-Some.place ≡ position (is_placed m.subscription) t.subscriptions.items) (find (is_member c.args.consumer) t.members.members) c.in-Some.ensures.some in
    record {
      name = m.0.subscription;
      named = still_named t u c.in-Some.place m.0.subscription c.release_held_by.ensures.same.kept m.2 ∙ sym (same_place u.subscriptions.items c.let_go.new.served.parts.subscriptions.items m.0.subscription c.let_go.ensures.names);
    }

pub returns-clause-answers : goal.returns-clause-answers
returns-clause-answers c =
    let s = state_in c.args.served.now in
    let t = c.args.served.now.parts in
    let u = c.release_held_by.new.served.parts in
    let m = one_of (λ (m : Member). Some c.in-Some.place ≡ position (is_placed m.subscription) t.subscriptions.items) (find (is_member c.args.consumer) t.members.members) c.in-Some.ensures.some in
    let name = m.0.subscription in
    let stands = one_stands (is_placed name) t.subscriptions.items c.in-Some.place m.2 in
    let then_named = still_named t u c.in-Some.place name c.release_held_by.ensures.same.kept m.2 in
    let after_named = then_named ∙ sym (same_place u.subscriptions.items c.let_go.new.served.parts.subscriptions.items name c.let_go.ensures.names) in
    let left = c.let_go.ensures.left name then_named ∙ c.release_held_by.ensures.same.same name m.2 in
    let over = c.take_over.ensures.over name after_named
    ∙ ap₂ (λ (before : Option ℕ) (x : State). taken_over name before x) (c.active_at-before.ensures name m.2) left
    ∙ same_takeover (without_member s c.args.consumer name) name (active_in_order s name) (active_at s name)
    (known_before_leaving s c.args.consumer name (sub_in (log_of t) stands.0) (named_sub (log_of t) t.subscriptions.items name c.in-Some.place m.2 stands.0 stands.2)) in (
      ap (λ (o : Option Member). if is_some o then None else Some NoSession) m.1,
      (
        refl,
        subst (λ (o : Option Member). IsSomeAnd o (λ x. state_in c.take_over.new.served ≡ taken_over x.subscription (active_at s x.subscription) (without_member s c.args.consumer x.subscription))) (sym m.1) over,
      ),
    )
