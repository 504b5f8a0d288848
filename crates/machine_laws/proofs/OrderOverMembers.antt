-- Each step keeps the order: in every reached state what is pending in an Exclusive or Failover subscription is the first of what is live, at the active member.
use Rattle.std.proofs.Common.{◌≡◌, ℕ, ◌+◌, ◌≤◌, List, [], ◌∷◌, ◌++◌, map, length, Some, None, Option, Bool, true, false, refl, ap, ◌∙◌, sym, subst, arith, true≢false}
use Rattle.std.specs.Prelude.{not, ◌&&◌, is_some, ◌==◌, nat_lt, if◌then◌else◌}
use Rattle.std.specs.List.{find}
use Rattle.std.specs.Option.{option_map, option_map_or, option_eq}
use Rattle.std.specs.FinMap as map_of
use Rattle.std.proofs.lemmas.Bool.Decides.{nat_tests}
use Rattle.position_core.specs.declared.position.Position.{Position}
use Rattle.position_core.specs.declared.message.Entry.{Entry}
use Rattle.position_core.specs.declared.held.Held.{Held}
use Rattle.position_core.specs.declared.kind.Kind.{Kind}
use Rattle.position_core.specs.declared.kind.Kind.TheVariants.{Exclusive, Failover, Shared, KeyShared}
use Rattle.position_core.specs.declared.topic_name.TopicName.{TopicName}
use Rattle.position_core.specs.declared.fault.Fault.{Fault}
use Rattle.position_core.specs.declared.fault.Fault.TheVariants.{WrongKind, ConsumerBusy}
use Rattle.position_core.specs.Kind.{is_in_order, same_kind}
use Rattle.position_core.specs.declared.ranges.HashRange.{HashRange}
use Rattle.delivery_machine.specs.State.{State, Subscription, Member}
use Rattle.delivery_machine.specs.Words.{changed, removed, is_named, is_at, is_member, is_held_by, is_live, has_kind, active_of, active_at, emptied, emptied_at}
use Rattle.delivery_machine.specs.Refusals.{subscribing_refused}
use Rattle.delivery_machine.specs.Joining.{releasing_all, all_released, is_taken_over, taken_over, joining, new_subscription, placed, with_member, leaving, without_member}
use Rattle.delivery_machine.specs.declared.event.Initial.{Initial}
use Rattle.delivery_machine.proofs.Deciding.{and_first, number_is, none_below}
use Rattle.delivery_machine.proofs.Firsts.{found_passes, some_kept}
use Rattle.delivery_machine.proofs.Behind.{IsIdle, same_name, is_same_name, names_differ}
use Rattle.delivery_machine.proofs.Tended.{is_seat, is_seated}
use Rattle.delivery_machine.proofs.Tending.{IsTendedIn, none_pending, part_retained, got_retained}
use Rattle.delivery_machine.proofs.Kept.{IsKept, nothing_pending, kinds_agree, tended_leaving}
use Rattle.delivery_machine.proofs.EachFirst.{EachFirst, each_changed, each_placed}
use Rattle.delivery_machine.proofs.HeldFirst.{is_ordered, ordered_part}
use Rattle.machine_laws.proofs.Ranks.{KeepsRanks, ranks_mapped, same_rank_if, active_number, seats_at, same_seats, those_pushed, those_removed, those_with, one_less}
use Rattle.machine_laws.proofs.InOrder.{is_pending_in, IsOrderly, IsOrderlyIn, taken_nothing, orderly_idle, orderly_taken, leads_idle, held_retained}

-- ---- kinds

-- a subscription of the kind is served by one consumer in order: Exclusive, or else Failover
in_order_kinds : (kind : Kind) → is_in_order kind ≡ true → same_kind kind Failover ≡ false → kind ≡ Exclusive
in_order_kinds Exclusive order other = refl
in_order_kinds Failover order other = cc
in_order_kinds Shared order other = cc
in_order_kinds KeyShared order other = cc

itself_exclusive : (kind : Kind) → kind ≡ Exclusive → same_kind kind Exclusive ≡ true
itself_exclusive kind is = ap (λ k. same_kind k Exclusive) is

-- ---- nobody is there

nobody_seated : (members : List Member) (name : List ℕ) (number : ℕ) → seats_at members name ≡ 0 → is_seated members name number ≡ true → ⊥
nobody_seated members name number none seated =
    true≢false (sym (some_kept (is_seat name number) (is_at name) members (λ m. and_first (is_at name m) (is_member number m)) seated) ∙ ap (nat_lt 0) none)

-- where nobody is at a subscription, nothing is pending in it
idle_without_members : (log : List Entry) (members : List Member) (sub : Subscription) → IsTendedIn log members sub → seats_at members sub.name ≡ 0 → IsIdle sub
idle_without_members log members sub tended none p h is = nobody_seated members sub.name h.consumer none (tended.at_members p h is)

-- ---- before a takeover

-- of a subscription that a member has joined or left: what is pending was sent to the member that was active before
pub record WasOrderly (log : List Entry) (durable : ℕ) (members : List Member) (before : Option ℕ) (sub : Subscription) : Type 0 where
  pub leads : is_ordered (is_live sub) (is_pending_in sub) durable log ≡ true
  pub at_active : (p : Position) (h : Held) → map_of.get sub.pending p ≡ Some h → before ≡ Some h.consumer
  pub alone : sub.kind ≡ Exclusive → seats_at members sub.name ≤ 1
  pub idle : sub.kind ≡ Exclusive → IsIdle sub

-- the subscriptions of other names are as they are to be
abbrev pub IsOrderlyBut : List Entry → ℕ → List Member → List ℕ → Option ℕ → Subscription → Type 0
IsOrderlyBut log durable members n before sub =
    (is_named n sub ≡ false → IsOrderlyIn log durable members sub) × (is_named n sub ≡ true → is_in_order sub.kind ≡ true → WasOrderly log durable members before sub)

pub emptied_ranks : (n : List ℕ) (members : List Member) → KeepsRanks members (map (emptied_at n) members)
emptied_ranks n members = ranks_mapped (emptied_at n) (λ m. same_rank_if (is_at n m) m (emptied m) refl) members

-- once it is settled who is active
pub each_taken_over : (s : State) (n : List ℕ) (before : Option ℕ) → EachFirst (IsOrderlyBut s.log s.durable s.members n before) s.subscriptions
    → EachFirst (IsOrderlyIn (taken_over n before s).log (taken_over n before s).durable (taken_over n before s).members) (taken_over n before s).subscriptions
each_taken_over s n before all = by (is_taken_over n before s) refl
  where
    released : EachFirst (IsOrderlyIn s.log s.durable (map (emptied_at n) s.members)) (changed (is_named n) releasing_all s.subscriptions)
    released =
        each_changed (IsOrderlyBut s.log s.durable s.members n before) (IsOrderlyIn s.log s.durable (map (emptied_at n) s.members)) n releasing_all s.subscriptions (λ _. refl)
        (λ sub elsewhere was. orderly_taken s.log s.durable s.members (map (emptied_at n) s.members) sub sub
        (taken_nothing sub sub refl refl (λ e. refl) (λ e. refl) (λ p h is. (h, is, refl))) (emptied_ranks n s.members) (was.0 elsewhere))
        (λ sub found was order. orderly_idle s.log s.durable (map (emptied_at n) s.members) (releasing_all sub) none_pending
        (λ exclusive. subst (λ (k : ℕ). k ≤ 1) (sym (same_seats s.members (map (emptied_at n) s.members) sub.name (emptied_ranks n s.members))) ((was.1 (found_passes (is_named n) s.subscriptions sub found) order).alone exclusive)))
        all

    agree : (a b : Option ℕ) → option_eq (λ a b. a == b) a b ≡ true → a ≡ b
    agree None None e = refl
    agree None (Some y) e = cc
    agree (Some x) None e = cc
    agree (Some x) (Some y) e = ap Some (number_is x y e)

    unless : (a b : Bool) → (a && not b) ≡ false → a ≡ true → b ≡ true
    unless true true e t = refl
    unless true false e t = cc
    unless false b e t = cc

    stays : is_taken_over n before s ≡ false → (sub : Subscription) → find (is_named n) s.subscriptions ≡ Some sub → sub.name ≡ n → is_in_order sub.kind ≡ true → WasOrderly s.log s.durable s.members before sub → IsOrderly s.log s.durable s.members sub
    stays kept sub found named order was = by_kind (same_kind sub.kind Failover) refl
      where
        by_kind : (b : Bool) → same_kind sub.kind Failover ≡ b → IsOrderly s.log s.durable s.members sub
        by_kind true failover = record {
          leads = was.leads;
          at_active = λ p h is.
              ap (active_number s.members) named
              ∙ sym (agree before (active_at s n) (unless (has_kind s n Failover) (option_eq (λ a b. a == b) before (active_at s n)) kept (ap (λ o. option_map_or (λ (z : Subscription). same_kind z.kind Failover) o false) found ∙ failover)))
              ∙ was.at_active p h is;
          alone = was.alone;
        }
        by_kind false other = orderly_idle s.log s.durable s.members sub (was.idle (in_order_kinds sub.kind order other)) was.alone

    unreleased : is_taken_over n before s ≡ false → (name : List ℕ) (sub : Subscription) → find (is_named name) s.subscriptions ≡ Some sub → IsOrderlyIn s.log s.durable s.members sub
    unreleased over name sub found order = by_name (is_named n sub) refl
      where
        by_name : (c : Bool) → is_named n sub ≡ c → IsOrderly s.log s.durable s.members sub
        by_name false elsewhere = (all name sub found).0 elsewhere order
        by_name true here =
            let named = same_name sub.name n here in
            let first : find (is_named n) s.subscriptions ≡ Some sub = subst (λ (m : List ℕ). find (is_named m) s.subscriptions ≡ Some sub) (sym (same_name sub.name name (found_passes (is_named name) s.subscriptions sub found)) ∙ named) found in
            stays over sub first named order ((all name sub found).1 here order)

    by : (b : Bool) → is_taken_over n before s ≡ b → EachFirst (IsOrderlyIn (if b then all_released n s else s).log (if b then all_released n s else s).durable (if b then all_released n s else s).members) (if b then all_released n s else s).subscriptions
    by true over = released
    by false over = unreleased over

-- ---- joining

-- nobody is at the subscription that a consumer may have for itself
nobody_before : (s : State) (name : List ℕ) (kind : Kind) (max_redeliver : ℕ) (dead_topic : TopicName) (ranges : Option (List HashRange)) → subscribing_refused s name kind max_redeliver dead_topic ranges ≡ None → kind ≡ Exclusive → seats_at s.members name ≡ 0
nobody_before s name kind max_redeliver dead_topic ranges allowed exclusive =
    none_below (seats_at s.members name) (some_or_not (nat_lt 0 (seats_at s.members name)) (has_kind s name kind) (same_kind kind Exclusive) (itself_exclusive kind exclusive) _ allowed)
  where
    some_or_not : (some has same : Bool) → same ≡ true → (rest : Option Fault) → (if some && not has then Some WrongKind else if some && same then Some ConsumerBusy else rest) ≡ None → some ≡ false
    some_or_not false has same e rest h = refl
    some_or_not true false same e rest h = cc
    some_or_not true true true e rest h = cc
    some_or_not true true false e rest h = cc

one_after : (members : List Member) (m : Member) → seats_at members m.subscription ≡ 0 → seats_at (members ++ m ∷ []) m.subscription ≤ 1
one_after members m none = let more = those_with members m m.subscription (is_same_name m.subscription m.subscription refl) in omega (arith, none, more)

pub each_joined : (s : State) (kind : Kind) (ranges : Option (List HashRange)) (initial : Initial) (m : Member) → subscribing_refused s m.subscription kind m.max_redeliver m.dead_topic ranges ≡ None → IsKept s → EachFirst (IsOrderlyIn s.log s.durable s.members) s.subscriptions
    → EachFirst (IsOrderlyBut s.log s.durable (s.members ++ m ∷ []) m.subscription (active_at s m.subscription)) (with_member s kind ranges initial m).subscriptions
each_joined s kind ranges initial m allowed kept all = by (find (is_named m.subscription) s.subscriptions) refl
  where
    elsewhere : (sub : Subscription) → is_named m.subscription sub ≡ false → IsOrderlyIn s.log s.durable s.members sub → IsOrderlyBut s.log s.durable (s.members ++ m ∷ []) m.subscription (active_at s m.subscription) sub
    elsewhere sub other was = (
      λ _ order.
          let one = was order in
          let those = those_pushed s.members m sub.name (names_differ sub.name m.subscription other) in
          record {
            leads = one.leads;
            at_active = λ p h is. ap (λ (ms : List Member). option_map (λ m. m.number) (active_of ms)) those ∙ one.at_active p h is;
            alone = λ exclusive. subst (λ (k : ℕ). k ≤ 1) (sym (ap (λ (ms : List Member). length ms) those)) (one.alone exclusive);
          },
      λ here. absurd (true≢false (sym here ∙ other)),
    )

    here : (sub : Subscription) → find (is_named m.subscription) s.subscriptions ≡ Some sub → IsOrderlyIn s.log s.durable s.members sub → is_in_order kind ≡ true → WasOrderly s.log s.durable (s.members ++ m ∷ []) (active_at s m.subscription) (joining kind ranges m.number sub)
    here sub found was order = by_kind (same_kind sub.kind kind) refl
      where
        named : sub.name ≡ m.subscription
        named = same_name sub.name m.subscription (found_passes (is_named m.subscription) s.subscriptions sub found)

        tended : IsTendedIn s.log s.members sub
        tended = kept.tended.first m.subscription sub found

        alone : kind ≡ Exclusive → seats_at (s.members ++ m ∷ []) sub.name ≤ 1
        alone exclusive =
            subst (λ (n : List ℕ). seats_at (s.members ++ m ∷ []) n ≤ 1) (sym named)
            (one_after s.members m (nobody_before s m.subscription kind m.max_redeliver m.dead_topic ranges allowed exclusive))

        nothing : kind ≡ Exclusive → IsIdle sub
        nothing exclusive =
            idle_without_members s.log s.members sub tended
            (ap (seats_at s.members) named ∙ nobody_before s m.subscription kind m.max_redeliver m.dead_topic ranges allowed exclusive)

        by_kind : (b : Bool) → same_kind sub.kind kind ≡ b → WasOrderly s.log s.durable (s.members ++ m ∷ []) (active_at s m.subscription) (joining kind ranges m.number sub)
        by_kind true same =
            let one = was (ap is_in_order (kinds_agree sub.kind kind same) ∙ order) in
            record {
              leads = one.leads;
              at_active = λ p h is. sym (ap (active_number s.members) named) ∙ one.at_active p h is;
              alone = alone;
              idle = nothing;
            }
        by_kind false other =
            let idle : IsIdle sub = nothing_pending s kind sub m.subscription m.max_redeliver m.dead_topic ranges found other allowed tended in
            record {
              leads = leads_idle s.log s.durable (joining kind ranges m.number sub) idle;
              at_active = λ p h is. absurd (idle p h is);
              alone = alone;
              idle = nothing;
            }

    by : (o : Option Subscription) → find (is_named m.subscription) s.subscriptions ≡ o
        → EachFirst (IsOrderlyBut s.log s.durable (s.members ++ m ∷ []) m.subscription (active_at s m.subscription))
        (if is_some o then changed (is_named m.subscription) (joining kind ranges m.number) s.subscriptions else placed (new_subscription m.subscription kind ranges m.number initial s.log) s.subscriptions)
    by (Some first) found =
        each_changed (IsOrderlyIn s.log s.durable s.members) (IsOrderlyBut s.log s.durable (s.members ++ m ∷ []) m.subscription (active_at s m.subscription)) m.subscription (joining kind ranges m.number) s.subscriptions (λ _. refl)
        elsewhere
        (λ sub there was. (λ other. absurd (true≢false (sym (found_passes (is_named m.subscription) s.subscriptions sub there) ∙ other)), λ _ order. here sub there was order))
        all
    by None none =
        let new : Subscription = new_subscription m.subscription kind ranges m.number initial s.log in
        each_placed (IsOrderlyIn s.log s.durable s.members) (IsOrderlyBut s.log s.durable (s.members ++ m ∷ []) m.subscription (active_at s m.subscription)) new s.subscriptions none (
          λ other. absurd (true≢false (sym (is_same_name m.subscription m.subscription refl) ∙ other)),
          λ _ order. record {
            leads = leads_idle s.log s.durable new none_pending;
            at_active = λ p h is. absurd (none_pending p h is);
            alone = λ exclusive. one_after s.members m (nobody_before s m.subscription kind m.max_redeliver m.dead_topic ranges allowed exclusive);
            idle = λ _. none_pending;
          },
        )
        elsewhere all

-- ---- leaving

pub each_left : (s : State) (consumer : ℕ) (m : Member) → find (is_member consumer) s.members ≡ Some m → IsKept s → EachFirst (IsOrderlyIn s.log s.durable s.members) s.subscriptions
    → EachFirst (IsOrderlyBut s.log s.durable (removed (is_member consumer) s.members) m.subscription (active_at s m.subscription)) (without_member s consumer m.subscription).subscriptions
each_left s consumer m there kept all =
    each_changed (IsOrderlyIn s.log s.durable s.members) (IsOrderlyBut s.log s.durable (removed (is_member consumer) s.members) m.subscription (active_at s m.subscription)) m.subscription (leaving consumer) s.subscriptions (λ _. refl)
    elsewhere
    (λ sub found was. (λ other. absurd (true≢false (sym (found_passes (is_named m.subscription) s.subscriptions sub found) ∙ other)), λ _ order. here sub found (was order)))
    all
  where
    elsewhere : (sub : Subscription) → is_named m.subscription sub ≡ false → IsOrderlyIn s.log s.durable s.members sub → IsOrderlyBut s.log s.durable (removed (is_member consumer) s.members) m.subscription (active_at s m.subscription) sub
    elsewhere sub other was = (
      λ _ order.
          let one = was order in
          let those = those_removed (is_member consumer) s.members m sub.name there (names_differ sub.name m.subscription other) in
          record {
            leads = one.leads;
            at_active = λ p h is. ap (λ (ms : List Member). option_map (λ m. m.number) (active_of ms)) those ∙ one.at_active p h is;
            alone = λ exclusive. subst (λ (k : ℕ). k ≤ 1) (sym (ap (λ (ms : List Member). length ms) those)) (one.alone exclusive);
          },
      λ here. absurd (true≢false (sym here ∙ other)),
    )

    here : (sub : Subscription) → find (is_named m.subscription) s.subscriptions ≡ Some sub → IsOrderly s.log s.durable s.members sub → WasOrderly s.log s.durable (removed (is_member consumer) s.members) (active_at s m.subscription) (leaving consumer sub)
    here sub found one = record {
      leads = leads (active_at s m.subscription) refl;
      at_active = at_active;
      alone = λ exclusive. let few = one.alone exclusive in let less = fewer in omega (arith, few, less);
      idle = λ exclusive.
          idle_without_members s.log (removed (is_member consumer) s.members) (leaving consumer sub) tended
          (let few = one.alone exclusive in let less = fewer in omega (arith, few, less));
    }
      where
        named : sub.name ≡ m.subscription
        named = same_name sub.name m.subscription (found_passes (is_named m.subscription) s.subscriptions sub found)

        keeps : Position → Bool
        keeps p = not (is_held_by consumer (map_of.get sub.pending p))

        fewer : seats_at s.members sub.name ≡ seats_at (removed (is_member consumer) s.members) sub.name + 1
        fewer = one_less (is_member consumer) s.members m sub.name there (is_same_name m.subscription sub.name (sym named))

        tended : IsTendedIn s.log (removed (is_member consumer) s.members) (leaving consumer sub)
        tended = tended_leaving s consumer m sub there (kept.tended.first m.subscription sub found)

        at_active : (p : Position) (h : Held) → map_of.get (leaving consumer sub).pending p ≡ Some h → active_at s m.subscription ≡ Some h.consumer
        at_active p h is = sym (ap (active_number s.members) named) ∙ one.at_active p h (got_retained sub.pending (λ p. not (is_held_by consumer (map_of.get sub.pending p))) p h is).1

        -- where it is the active member that leaves, everything is released; else nothing
        leads : (active : Option ℕ) → active_at s m.subscription ≡ active → is_ordered (is_live (leaving consumer sub)) (is_pending_in (leaving consumer sub)) s.durable s.log ≡ true
        leads None is = leads_idle s.log s.durable (leaving consumer sub) (λ p h got. let at = at_active p h got in cc)
        leads (Some active) is = by (active == consumer) refl
          where
            holder : (p : Position) (h : Held) → map_of.get sub.pending p ≡ Some h → active ≡ h.consumer
            holder p h got = let at = sym is ∙ sym (ap (active_number s.members) named) ∙ one.at_active p h got in cc

            other : (a b c : ℕ) → a ≡ b → (a == c) ≡ false → not (b == c) ≡ true
            other a b c e f = grind (arith, nat_tests)

            own : (a b c : ℕ) → a ≡ b → (a == c) ≡ true → not (b == c) ≡ true → ⊥
            own a b c e f g = grind (arith, nat_tests)

            kept_by : (active == consumer) ≡ false → (p : Position) (o : Option Held) → map_of.get sub.pending p ≡ o → (is_some o && not (is_held_by consumer o)) ≡ is_some o
            kept_by differs p None got = refl
            kept_by differs p (Some h) got = other active h.consumer consumer (holder p h got) differs

            held : (active == consumer) ≡ false → (e : Entry) → is_pending_in (leaving consumer sub) e ≡ is_pending_in sub e
            held differs e = held_retained sub.pending (λ p. not (is_held_by consumer (map_of.get sub.pending p))) e.position ∙ kept_by differs e.position (map_of.get sub.pending e.position) refl

            by : (b : Bool) → (active == consumer) ≡ b → is_ordered (is_live (leaving consumer sub)) (is_pending_in (leaving consumer sub)) s.durable s.log ≡ true
            by true same =
                leads_idle s.log s.durable (leaving consumer sub)
                (λ p h got.
                let was = got_retained sub.pending (λ p. not (is_held_by consumer (map_of.get sub.pending p))) p h got in
                own active h.consumer consumer (holder p h was.1) same (sym (ap (λ o. not (is_held_by consumer o)) was.1) ∙ was.0))
            by false differs =
                let taken = taken_nothing sub (leaving consumer sub) refl refl (λ e. refl) (held differs) (part_retained sub.pending (λ p. not (is_held_by consumer (map_of.get sub.pending p)))) in
                ordered_part (is_live sub) (is_pending_in sub) (is_live (leaving consumer sub)) (is_pending_in (leaving consumer sub)) taken.stays taken.live taken.held s.durable s.log one.leads
