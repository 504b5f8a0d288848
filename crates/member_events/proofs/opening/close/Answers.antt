use Rattle.std.proofs.Common.{◌≡◌, ◌∙◌, ℕ, List, Some, All, ap, map, sym, subst, subst₂}
use Rattle.std.specs.List.{position, remove}
use Rattle.delivery_machine.specs.State.{State, Subscription}
use Rattle.delivery_machine.specs.Words.{is_named, removed}
use Rattle.delivery_machine.proofs.Places.{removed_there}
use Rattle.topic_log.specs.Written.{all_of}
use Rattle.dedup_core.specs.Sequences.{AgreesWith}
use Rattle.topic_served.specs.Told.{AreTold}
use Rattle.topic_served.specs.declared.dispatch.Dispatch.{Dispatch}
use Rattle.topic_served.proofs.Agreed.{told_removed}
use Rattle.topic_served.proofs.Opening.{goes_dropped}
use Rattle.topic_subscriptions.specs.Placed.{IsPlacedIn, Placed, is_placed, sub_in}
use Rattle.topic_parts.specs.declared.parts.Parts.{Parts}
use Rattle.topic_parts.specs.Parts.{AreTied, log_of, state_of}
use Rattle.topic_served.proofs.Telling.{at_place, named_place, one_stands, place_within}
use Rattle.member_events.proofs.Opened.{all_left, map_left}
use Rattle.member_events.proofs.opening.close.Goals as goal

-- in the machine's words
gone : (t : Parts) (place : ℕ) (name : List ℕ) (left : List Placed) → Some place ≡ position (is_placed name) t.subscriptions.items → left ≡ remove t.subscriptions.items place
    → ◌≡◌ {A = State} (record (state_of t) { subscriptions = map (sub_in (log_of t)) left }) (record (state_of t) { subscriptions = removed (is_named name) (state_of t).subscriptions })
gone t place name left named is =
    let x = one_stands (is_placed name) t.subscriptions.items place named in
    ap (λ (subs : List Subscription). record (state_of t) { subscriptions = subs })
    (ap (map (sub_in (log_of t))) is ∙ map_left (sub_in (log_of t)) t.subscriptions.items place
    ∙ removed_there (is_named name) (state_of t).subscriptions place (sub_in (log_of t) x.0) (sym (named_place t name place named)))

pub returns-clause-gone : goal.returns-clause-gone
returns-clause-gone c name named =
    ap state_of c.remove_subscription.ensures.rest
    ∙ gone c.args.served.now.parts c.args.place name c.remove_subscription.new.parts.subscriptions.items named c.remove_subscription.ensures.items

pub returns-clause-bound : goal.returns-clause-bound
returns-clause-bound c =
    let t = c.args.served.now.parts in
    let s = state_of t in
    let u = c.remove_subscription.new.parts in
    let name = c.requires.stands.name in
    let x = one_stands (is_placed name) t.subscriptions.items c.args.place c.requires.stands.named in
    let low = place_within (is_placed name) t.subscriptions.items c.args.place c.requires.stands.named in
    let dropped : State = record s { subscriptions = removed (is_named name) s.subscriptions } in
    let rest = sym c.remove_subscription.ensures.rest in
    record {
      numbers = subst (λ (v : Parts). AgreesWith (all_of v.log) v.log.numbers) rest c.requires.bound.numbers;
      tied = subst AreTied rest
          (subst (λ (subs : List Placed). All (IsPlacedIn (log_of t) t.members.members) subs) (sym c.remove_subscription.ensures.items)
          (all_left (IsPlacedIn (log_of t) t.members.members) t.subscriptions.items c.args.place c.requires.bound.tied low));
      told = subst₂ (λ (ds : List Dispatch) (v : State). AreTold ds v) (sym c.remove_dispatch.ensures)
          (sym (ap state_of c.remove_subscription.ensures.rest ∙ gone t c.args.place name u.subscriptions.items c.requires.stands.named c.remove_subscription.ensures.items))
          (told_removed c.args.served.now.dispatchers.items s dropped c.requires.bound.told c.args.place
          (goes_dropped s name c.args.place (sub_in (log_of t) x.0) (named_place t name c.args.place c.requires.stands.named) (at_place t c.args.place x.0 x.1)));
    }
