-- All that is pending in a subscription is redelivered: what the parts stand for, and what ties them.
use Rattle.std.proofs.Common.{◌≡◌, ℕ, List, map, Some, true, All, get_or, set, ap, ap₂, ◌∙◌, sym, subst}
use Rattle.std.specs.List.{position}
use Rattle.std.specs.Vec.{with_item}
use Rattle.std.specs.FinMap as map_of
use Rattle.std.proofs.lemmas.List.Quantifiers.{position-Some}
use Rattle.position_core.specs.declared.position.Position.{Position}
use Rattle.delivery_machine.specs.State.{Member, Subscription}
use Rattle.delivery_machine.specs.Words.{emptied_at}
use Rattle.delivery_machine.specs.Acknowledging.{forgetting, is_one_of}
use Rattle.delivery_machine.specs.Ticking.{redelivered, redelivering}
use Rattle.delivery_machine.specs.WellFormed.{IsWellFormed}
use Rattle.delivery_machine.proofs.Behind.{same_name}
use Rattle.pending_core.proofs.Elements.{slice_get-set_same}
use Rattle.topic_members.specs.Joined.{Joined, emptied_in}
use Rattle.topic_subscriptions.specs.Placed.{IsPlacedIn, Placed, is_placed, line_at, sub_in}
use Rattle.topic_parts.specs.Parts.{AreTied, log_of, state_of}
use Rattle.topic_parts.specs.declared.parts.Parts.{Parts}
use Rattle.topic_parts.proofs.Acknowledged.{placed_beside}
use Rattle.topic_parts.proofs.Changing.{changed_sub, named_sub, placed_there, there_is, tied_at, within}
use Rattle.topic_parts.proofs.Sought.{line_emptied}
use Rattle.tick_events.specs.Rewinding.{IsRecounted, pending_at}
use Rattle.tick_events.proofs.Emptied.{emptied_forgets}
use Rattle.tick_events.proofs.Listed.{all_listed}
use Rattle.tick_events.proofs.Recounted.{of_log}

-- what is pending is among the positions
pub all_listed_there : (t : Parts) (name : List ℕ) (place : ℕ) (x : Placed) → Some place ≡ position (is_placed name) t.subscriptions.items → x ≡ get_or t.subscriptions.items place x → AreTied t
    → (q : Position) → map_of.contains_key x.pending.pending q ≡ true → is_one_of (pending_at t x) q ≡ true
all_listed_there t name place x named at tied q key =
    all_listed (log_of t) x.pending.pending q (of_log (log_of t) t.members.members x (placed_there (log_of t) t.subscriptions.items name place named t.members.members x tied at)) ∙ key

module _ (t : Parts) (name : List ℕ) (place : ℕ) (x y : Placed) (named : Some place ≡ position (is_placed name) t.subscriptions.items)
    (at : x ≡ get_or t.subscriptions.items place x) (counted : IsRecounted x y) (tied : AreTied t)
  where
    placed : IsPlacedIn (log_of t) t.members.members x
    placed = placed_there (log_of t) t.subscriptions.items name place named t.members.members x tied at

    still_placed : IsPlacedIn (log_of t) t.members.members y
    still_placed = counted.placed (log_of t) t.members.members placed

    sub_is : sub_in (log_of t) y ≡ redelivering (pending_at t x) (sub_in (log_of t) x)
    sub_is = counted.counted (log_of t) t.members.members placed

    its_name : y.name ≡ name
    its_name = ap (λ (s : Subscription). s.name) sub_is ∙ same_name x.name name (ap (is_placed name) at ∙ (position-Some (is_placed name) t.subscriptions.items place x (sym named)).1)

    -- as it is read again
    pub line_there : (z : Placed) → z ≡ get_or (set t.subscriptions.items place y) place z → z.line ≡ line_at name t.members.members
    line_there z read =
        ap (λ (p : Placed). p.line) (there_is (set t.subscriptions.items place y) place z y read (sym (slice_get-set_same t.subscriptions.items place y (within (log_of t) t.subscriptions.items name place named x))))
        ∙ still_placed.line ∙ ap (λ (n : List ℕ). line_at n t.members.members) its_name

    pub rewound_state : (ms : Joined) → ms.members ≡ map (emptied_at name) t.members.members → ms.next ≡ t.members.next → IsWellFormed (state_of t)
        → state_of (record t { subscriptions = with_item t.subscriptions place y; members = ms }) ≡ redelivered (state_of t) name (pending_at t x)
    rewound_state ms members_are next_is well =
        let log = log_of t in
        let forgot = emptied_forgets (state_of t) name (sub_in log x) (pending_at t x) (named_sub log t.subscriptions.items name place named x at) (all_listed_there t name place x named at tied) well in
        ap₂ (λ (m : List Member) (n : ℕ). record (state_of t) { subscriptions = map (sub_in log) (set t.subscriptions.items place y); members = m; next_consumer = n }) (members_are ∙ forgot) next_is
        ∙ ap (λ (ss : List Subscription). record (state_of t) { subscriptions = ss; members = map (forgetting name (pending_at t x)) t.members.members })
        (changed_sub log t.subscriptions.items name place named (redelivering (pending_at t x)) x y at sub_is)

    pub rewound_tied : (ms : Joined) (line : List ℕ) → ms.members ≡ map (emptied_in line) t.members.members → AreTied (record t { subscriptions = with_item t.subscriptions place y; members = ms })
    rewound_tied ms line members_are =
        let log = log_of t in
        let before = t.members.members in
        let lines = line_emptied line before in
        subst (λ (xs : List Member). All (IsPlacedIn log xs) (set t.subscriptions.items place y)) (sym members_are)
        (tied_at log before (map (emptied_in line) before) t.subscriptions.items place y lines tied (placed_beside log before (map (emptied_in line) before) y (lines y.name) still_placed))
