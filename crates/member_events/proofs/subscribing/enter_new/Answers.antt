use Rattle.std.proofs.Common.{◌≡◌, ◌∙◌, ℕ, List, Option, None, refl, ap, ap₂, subst, sym}
use Rattle.std.specs.List.{find, position}
use Rattle.position_core.specs.declared.ranges.HashRange.{HashRange}
use Rattle.position_core.specs.declared.kind.Kind.{Kind}
use Rattle.position_core.specs.declared.topic_name.TopicName.{TopicName}
use Rattle.delivery_machine.specs.State.{State}
use Rattle.delivery_machine.specs.Joining.{with_member}
use Rattle.delivery_machine.specs.Words.{is_named}
use Rattle.delivery_machine.specs.declared.event.Initial.{Initial}
use Rattle.delivery_machine.proofs.Places.{found_nothing}
use Rattle.topic_served.specs.Stepping.{opened}
use Rattle.topic_members.specs.Joined.{Joined}
use Rattle.topic_members.specs.Members.{joining}
use Rattle.topic_members.specs.declared.member.Terms.{Terms}
use Rattle.topic_subscriptions.specs.Placed.{is_placed, sub_in}
use Rattle.topic_parts.specs.declared.parts.Parts.{Parts}
use Rattle.topic_parts.specs.Parts.{log_of, state_of}
use Rattle.topic_parts.proofs.Mapped.{position_mapped}
use Rattle.topic_served.specs.Served.{state_in}
use Rattle.member_events.specs.Entering.{MayEnter, entered}
use Rattle.member_events.proofs.Absent.{nobody_at}
use Rattle.member_events.proofs.Asking.{asks_none}
use Rattle.member_events.proofs.Newcomer.{closed_again, entered_new}
use Rattle.member_events.proofs.Standing.{same_place}
use Rattle.member_events.proofs.Welcome.{may_enter_new, well}
use Rattle.member_events.proofs.subscribing.enter_new.Goals as goal

module _ (t : Parts) (name : List ℕ) (absent : None ≡ position (is_placed name) t.subscriptions.items) where
  nowhere : None ≡ position (is_named name) (state_of t).subscriptions
  nowhere = absent ∙ sym (position_mapped (sub_in (log_of t)) (is_placed name) (is_named name) (λ _. refl) t.subscriptions.items)

  none_found : find (is_named name) (state_of t).subscriptions ≡ None
  none_found = found_nothing (is_named name) (state_of t).subscriptions nowhere

  -- the member that enters the one that was made, under a name of its own
  joined_new : (mid : Parts) (own : List ℕ) (kind : Kind) (ranges : Option (List HashRange)) (initial : Initial) (terms : Terms) (dead_topic : TopicName) → own ≡ name → mid.members ≡ t.members → state_of mid ≡ opened (state_of t) name kind initial
      → entered (state_of mid) ranges (joining mid.members.next own terms dead_topic) ≡ with_member (state_of t) kind ranges initial (joining t.members.next name terms dead_topic)
  joined_new mid own kind ranges initial terms dead_topic same members is =
      ap₂ (λ (u : State) (ms : Joined). entered u ranges (joining ms.next own terms dead_topic)) is members
      ∙ ap (λ (n : List ℕ). entered (opened (state_of t) name kind initial) ranges (joining t.members.next n terms dead_topic)) same
      ∙ entered_new (state_of t) (joining t.members.next name terms dead_topic) kind ranges initial none_found

pub open-requires-clause-nobody : goal.open-requires-clause-nobody
open-requires-clause-nobody c =
    let t = c.args.served.now.parts in
    nobody_at (state_of t) c.args.name (well c.args.served.now c.args.name c.args.kind c.args.terms c.args.dead_topic c.args.ranges.now c.requires.welcome) (nowhere t c.args.name c.requires.absent)

pub enter-requires-clause-may : goal.enter-requires-clause-may
enter-requires-clause-may c =
    let new = c.open.new.served.parts in
    let made = c.in-Ok-open.ensures in
    subst (λ (n : List ℕ). MayEnter new c.in-Ok-open.place n) (sym c.in-Ok.ensures.cases)
    (may_enter_new c.args.served.now c.args.name c.args.kind c.args.terms c.args.dead_topic c.args.ranges.now c.requires.welcome new c.in-Ok-open.place c.args.initial
    (none_found c.args.served.now.parts c.args.name c.requires.absent) made.ok made.members made.bound.tied made.place made.unshared)

pub enter-requires-clause-free : goal.enter-requires-clause-free
enter-requires-clause-free c p at = asks_none p c.args.ranges.now (c.in-Ok-open.ensures.unshared p at)

pub close-requires-clause-stands : goal.close-requires-clause-stands
close-requires-clause-stands c = record {
  name = c.args.name;
  named = c.in-Ok-open.ensures.place ∙ sym (same_place c.open.new.served.parts.subscriptions.items c.enter.new.served.parts.subscriptions.items c.args.name c.in-Err.ensures.names);
}

pub returns-in-Ok-enter-clause-ok : goal.returns-in-Ok-enter-clause-ok
returns-in-Ok-enter-clause-ok c =
    let made = c.in-Ok-open.ensures in
    c.in-Ok-enter.ensures.ok
    ∙ joined_new c.args.served.now.parts c.args.name c.requires.absent c.open.new.served.parts c.in-Ok.own c.args.kind c.args.ranges.now c.args.initial c.args.terms c.args.dead_topic c.in-Ok.ensures.cases made.members made.ok

pub returns-in-Ok-enter-clause-place : goal.returns-in-Ok-enter-clause-place
returns-in-Ok-enter-clause-place c =
    c.in-Ok-open.ensures.place ∙ sym (same_place c.open.new.served.parts.subscriptions.items c.enter.new.served.parts.subscriptions.items c.args.name c.in-Ok-enter.ensures.names)

pub returns-in-Err-clause-same : goal.returns-in-Err-clause-same
returns-in-Err-clause-same c =
    let s = state_in c.args.served.now in
    let made = c.in-Ok-open.ensures in
    c.close.ensures.gone c.args.name (made.place ∙ sym (same_place c.open.new.served.parts.subscriptions.items c.enter.new.served.parts.subscriptions.items c.args.name c.in-Err.ensures.names))
    ∙ closed_again s c.args.name c.args.kind c.args.initial (none_found c.args.served.now.parts c.args.name c.requires.absent) (state_in c.enter.new.served) (c.in-Err.ensures.same ∙ made.ok)
