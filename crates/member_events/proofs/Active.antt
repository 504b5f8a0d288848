-- Whom a dispatcher knows as active, and that it is enough to tell a takeover by.
use Rattle.std.proofs.Common.{◌≡◌, ℕ, List, [], Option, Some, None, Bool, true, false, cond, get_or, refl, ap, ◌∙◌, sym, true≢false}
use Rattle.std.specs.Prelude.{is_some, not, ◌&&◌, ◌==◌, if◌then◌else◌}
use Rattle.std.specs.List.{find, position}
use Rattle.std.specs.Option.{option_eq, option_map, option_map_or}
use Rattle.std.proofs.lemmas.Option.{slice_get-get_or}
use Rattle.position_core.specs.declared.ranges.HashRange.{HashRange}
use Rattle.position_core.specs.declared.kind.Kind.{Kind}
use Rattle.position_core.specs.declared.kind.Kind.TheVariants.{Failover}
use Rattle.position_core.specs.declared.topic_name.TopicName.{TopicName}
use Rattle.position_core.specs.Kind.{is_in_order, same_kind}
use Rattle.delivery_machine.specs.State.{State, Member, Subscription}
use Rattle.delivery_machine.specs.Words.{active_at, active_of, changed, has_kind, is_in_order_at, is_named, members_of}
use Rattle.delivery_machine.specs.Joining.{all_released, joining, leaving, new_subscription, placed, taken_over, with_member, without_member}
use Rattle.delivery_machine.specs.declared.event.Initial.{Initial}
use Rattle.delivery_machine.proofs.Finding.{found_itself_changed}
use Rattle.delivery_machine.proofs.Kept.{kinds_agree}
use Rattle.delivery_machine.proofs.Places.{found_nothing}
use Rattle.topic_served.specs.Agreeing.{agrees}
use Rattle.topic_served.specs.Told.{AreTold}
use Rattle.topic_served.specs.declared.dispatch.Dispatch.{Dispatch}
use Rattle.topic_members.specs.declared.member.Terms.{Terms}
use Rattle.topic_subscriptions.specs.Placed.{Placed, is_placed, sub_in}
use Rattle.topic_parts.specs.Parts.{log_of}
use Rattle.topic_parts.proofs.Changing.{named_sub}
use Rattle.topic_served.specs.declared.served.Served.{Served}
use Rattle.topic_served.specs.Served.{state_in}
use Rattle.topic_served.proofs.Telling.{are_told_within, at_place, one_stands}
use Rattle.member_events.specs.Active.{active_in_order}
use Rattle.member_events.specs.Entering.{IsAllowed}
use Rattle.member_events.proofs.Standing.{its_name}
use Rattle.member_events.proofs.Welcome.{nobody_there}

-- what the dispatcher at the place keeps
pub kept_at : (c : Served) (place : ℕ) (name : List ℕ) (d : Dispatch) (active : Option ℕ) → AreTold c.dispatchers.items (state_in c) → Some place ≡ position (is_placed name) c.parts.subscriptions.items → d ≡ get_or c.dispatchers.items place d
    → ((s : State) (sub : Subscription) → agrees d s sub → active ≡ if is_in_order sub.kind then active_at s sub.name else None) → active ≡ active_in_order (state_in c) name
kept_at c place name d active told named here keeps =
    let t = c.parts in
    let s = state_in c in
    let stands = one_stands (is_placed name) t.subscriptions.items place named in
    let x : Placed = stands.0 in
    let sub : Subscription = sub_in (log_of t) x in
    let d_there = slice_get-get_or c.dispatchers.items place d (are_told_within c.dispatchers.items t name place told named) ∙ ap (λ (e : Dispatch). Some e) (sym here) in
    keeps s sub (told.each place d sub d_there (at_place t place x stands.1))
    ∙ ap (λ (n : List ℕ). if is_in_order x.kind then active_at s n else None) (its_name t.subscriptions.items name place x named stands.2)
    ∙ sym (ap (λ (o : Option Subscription). if option_map_or (λ z. is_in_order z.kind) o false then active_at s name else None) (named_sub (log_of t) t.subscriptions.items name place named x stands.2))

pub none_known : (s : State) (name : List ℕ) → None ≡ position (is_named name) s.subscriptions → None ≡ active_in_order s name
none_known s name nowhere =
    sym (ap (λ (o : Option Subscription). if option_map_or (λ sub. is_in_order sub.kind) o false then active_at s name else None) (found_nothing (is_named name) s.subscriptions nowhere))

-- ---- it is the active member

failover_in_order : (s : State) (name : List ℕ) → has_kind s name Failover ≡ true → is_in_order_at s name ≡ true
failover_in_order s name is = by (find (is_named name) s.subscriptions) is
  where
    by : (o : Option Subscription) → option_map_or (λ sub. same_kind sub.kind Failover) o false ≡ true → option_map_or (λ sub. is_in_order sub.kind) o false ≡ true
    by None is = is
    by (Some sub) is = ap is_in_order (kinds_agree sub.kind Failover is)

pub known_of_failover : (s : State) (name : List ℕ) → has_kind s name Failover ≡ true → active_in_order s name ≡ active_at s name
known_of_failover s name is = ap (λ (b : Bool). if b then active_at s name else None) (failover_in_order s name is)

-- it is also where nobody is there
known_or_nobody : (s : State) (name : List ℕ) → (is_in_order_at s name ≡ false → members_of s name ≡ []) → active_in_order s name ≡ active_at s name
known_or_nobody s name nobody = by (is_in_order_at s name) refl
  where
    by : (b : Bool) → is_in_order_at s name ≡ b → (if b then active_at s name else None) ≡ active_at s name
    by true is = refl
    by false is = sym (ap (λ (ms : List Member). option_map (λ (m : Member). m.number) (active_of ms)) (nobody is))

-- ---- a takeover is told by it

-- who was active matters for a Failover alone
pub same_takeover : (t : State) (name : List ℕ) (known active : Option ℕ) → (has_kind t name Failover ≡ true → known ≡ active) → taken_over name known t ≡ taken_over name active t
same_takeover t name known active same = by (has_kind t name Failover) refl
  where
    is_other : Option ℕ → Bool
    is_other before = not (option_eq (λ a b. a == b) before (active_at t name))

    by : (b : Bool) → has_kind t name Failover ≡ b → taken_over name known t ≡ taken_over name active t
    by true is = ap (λ (before : Option ℕ). taken_over name before t) (same is)
    by false is = ap (λ (b : Bool). cond (b && is_other known) (all_released name t) t) is ∙ sym (ap (λ (b : Bool). cond (b && is_other active) (all_released name t) t) is)

-- a subscription that takes another kind has no members
module _ (s : State) (name : List ℕ) (kind : Kind) (terms : Terms) (dead_topic : TopicName) (ranges : Option (List HashRange)) (allowed : IsAllowed s name kind terms dead_topic ranges) where
  no_failover : kind ≡ Failover → is_in_order_at s name ≡ false → has_kind s name kind ≡ false
  no_failover failover out = by (has_kind s name kind) refl
    where
      by : (b : Bool) → has_kind s name kind ≡ b → has_kind s name kind ≡ false
      by true is = absurd (true≢false (sym (failover_in_order s name (ap (has_kind s name) (sym failover) ∙ is)) ∙ out))
      by false is = is

  pub known_before_joining : (m : Member) (initial : Initial) → m.subscription ≡ name → has_kind (with_member s kind ranges initial m) name Failover ≡ true → active_in_order s name ≡ active_at s name
  known_before_joining m initial at after = by (find (is_named name) s.subscriptions) refl
    where
      by : (o : Option Subscription) → find (is_named name) s.subscriptions ≡ o → active_in_order s name ≡ active_at s name
      by None none = known_or_nobody s name (λ _. nobody_there s name kind terms dead_topic ranges allowed (ap (λ (o : Option Subscription). option_map_or (λ sub. same_kind sub.kind kind) o false) none))
      by (Some sub) there =
          let found : find (is_named name) (with_member s kind ranges initial m).subscriptions ≡ Some (joining kind ranges m.number sub) =
          ap (λ (n : List ℕ). find (is_named name) (if is_some (find (is_named n) s.subscriptions) then changed (is_named n) (joining kind ranges m.number) s.subscriptions else placed (new_subscription n kind ranges m.number initial s.log) s.subscriptions)) at
          ∙ ap (λ (b : Bool). find (is_named name) (if b then changed (is_named name) (joining kind ranges m.number) s.subscriptions else placed (new_subscription name kind ranges m.number initial s.log) s.subscriptions)) (ap is_some there)
          ∙ found_itself_changed (is_named name) (joining kind ranges m.number) (λ _. refl) s.subscriptions sub there in
          let failover = kinds_agree kind Failover (sym (ap (λ (o : Option Subscription). option_map_or (λ z. same_kind z.kind Failover) o false) found) ∙ after) in
          known_or_nobody s name (λ out. nobody_there s name kind terms dead_topic ranges allowed (no_failover failover out))

pub known_before_leaving : (s : State) (consumer : ℕ) (name : List ℕ) (sub : Subscription) → find (is_named name) s.subscriptions ≡ Some sub → has_kind (without_member s consumer name) name Failover ≡ true → active_in_order s name ≡ active_at s name
known_before_leaving s consumer name sub there after =
    let is_failover : Option Subscription → Bool = λ o. option_map_or (λ z. same_kind z.kind Failover) o false in
    known_of_failover s name (ap is_failover there ∙ sym (ap is_failover (found_itself_changed (is_named name) (leaving consumer) (λ _. refl) s.subscriptions sub there)) ∙ after)
