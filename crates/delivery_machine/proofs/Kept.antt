-- What every reached state keeps: positions that rise, and pending messages that are tended.
use Rattle.std.proofs.Common.{◌≡◌, ℕ, List, [], ◌∷◌, ◌++◌, map, Some, None, Option, Bool, true, false, take, refl, ap, ◌∙◌, sym, subst, arith, true≢false, ap₂}
use Rattle.std.specs.Prelude.{not, ◌==◌, ◌&&◌, ◌^◌, nat_le, is_some, nat_lt, length, if◌then◌else◌}
use Rattle.std.specs.List.{find}
use Rattle.std.specs.Option.{option_map_or}
use Rattle.std.specs.FinMap as map_of
use Rattle.std.proofs.lemmas.Bool.Decides.{nat_tests}
use Rattle.position_core.specs.declared.position.Position.{Position}
use Rattle.position_core.specs.declared.topic_name.TopicName.{TopicName}
use Rattle.position_core.specs.declared.message.Entry.{Entry}
use Rattle.position_core.specs.declared.held.Held.{Held}
use Rattle.position_core.specs.declared.kind.Kind.{Kind}
use Rattle.position_core.specs.declared.kind.Kind.TheVariants.{Exclusive, Failover, Shared, KeyShared}
use Rattle.position_core.specs.declared.fault.Fault.{Fault}
use Rattle.position_core.specs.Kind.{same_kind}
use Rattle.position_core.specs.Position.{position_cmp}
use Rattle.position_core.specs.declared.ranges.HashRange.{HashRange}
use Rattle.delivery_machine.specs.State.{State, Member, Subscription}
use Rattle.delivery_machine.specs.State as state
use Rattle.delivery_machine.specs.Words.{changed, removed, is_named, is_at, is_member, is_held_by, is_held_at, members_of, has_kind, next_position, emptied, emptied_at, count_of, IsEligible}
use Rattle.delivery_machine.specs.Refusals.{is_full, subscribing_refused, nacking_refused}
use Rattle.delivery_machine.specs.Producing.{with_message, storing, stored, storing_below, stored_to}
use Rattle.delivery_machine.specs.Joining.{releasing_all, all_released, is_taken_over, taken_over, joining, new_subscription, placed, with_member, leaving, without_member}
use Rattle.delivery_machine.specs.Acknowledging.{acknowledging, with_acknowledged, forgetting, without, is_one_of}
use Rattle.delivery_machine.specs.Delivering.{holding, given, sent, due_after}
use Rattle.delivery_machine.specs.Ticking.{redelivering, redelivered}
use Rattle.delivery_machine.specs.Seeking.{seeking, sought}
use Rattle.delivery_machine.specs.Dying.{burying, letter_of, died, moving, moved}
use Rattle.delivery_machine.specs.declared.event.Initial.{Initial}
use Rattle.delivery_machine.proofs.Firsts.{found_passes, any_removed, some_kept}
use Rattle.delivery_machine.proofs.Rising.{IsRising, rising_push, one_of_position, next_is_new}
use Rattle.delivery_machine.proofs.Behind.{same_name, names_differ}
use Rattle.delivery_machine.proofs.Tended.{IsTended, IsPartOf, is_seat, is_seated, some_is, tended_empty, tended_part, tended_members, tended_seats, tended_push, tended_sent}
use Rattle.delivery_machine.proofs.Tending.{IsTendedIn, AllTended, got_retained, part_retained, none_pending, part_empty, part_held_again, same_seat_if, tended_mapped, seats_changed, seats_mapped, seats_pushed, tended_changed, tended_taken, tended_stay, tended_placed, tended_removed}
use Rattle.delivery_machine.proofs.Sending.{chosen}
use Rattle.delivery_machine.proofs.Deciding.{and_first, holds_unless_refused, or_false}

pub record IsKept (s : State) : Type 0 where
  pub rising : IsRising s.log s.ledger
  pub tended : AllTended s.log s.members s.subscriptions

-- where a test comes before others, and none refused
pub not_refused : (b : Bool) (fault : Fault) (rest : Option Fault) → (if b then Some fault else rest) ≡ None → b ≡ false
not_refused true fault rest e = cc
not_refused false fault rest e = refl

pub not_refused_next : (b : Bool) (fault : Fault) (rest : Option Fault) → (if b then Some fault else rest) ≡ None → rest ≡ None
not_refused_next true fault rest e = cc
not_refused_next false fault rest e = e

-- ---- the log

pub kept_message : (s : State) (e : Entry) → e.position ≡ next_position s → is_full s ≡ false → IsKept s → IsKept (with_message s e)
kept_message s e is room kept = record {
  rising = rising_push s e is (or_false (nat_le 1048576 (length s.log)) (nat_lt (2 ^ 62) (next_position s).ledger) room).1 kept.rising;
  tended = record {
    first = λ name sub found.
        tended_push s.log e s.members sub.name sub.kind sub.pending
        (λ x at same. next_is_new s kept.rising x at (same ∙ is)) (kept.tended.first name sub found);
    behind = kept.tended.behind;
  };
}

-- ---- what only takes away

forgotten_seats : (n : List ℕ) (positions : List Position) (name : List ℕ) (number : ℕ) (m : Member) → is_seat name number (forgetting n positions m) ≡ is_seat name number m
forgotten_seats n positions name number m = same_seat_if (is_at n m) name number m (record m { out = without positions m.out }) refl

-- where a subscription only loses what is pending, and each member stays where it is
pub kept_taking : (s : State) (name : List ℕ) (f : Subscription → Subscription) (g : Member → Member)
    → ((sub : Subscription) → (f sub).name ≡ sub.name) → ((sub : Subscription) → (f sub).kind ≡ sub.kind) → ((sub : Subscription) → IsPartOf (f sub).pending sub.pending)
    → ((name : List ℕ) (number : ℕ) (m : Member) → is_seat name number (g m) ≡ is_seat name number m)
    → IsKept s → IsKept (record s { subscriptions = changed (is_named name) f s.subscriptions; members = map g s.members })
kept_taking s name f g name_stays kind_stays part same kept = record {
  rising = kept.rising;
  tended = tended_taken s.log s.members (map g s.members) name f s.subscriptions name_stays kind_stays (λ sub _. part sub) (seats_mapped g same s.members) kept.tended;
}

pub kept_acknowledged : (s : State) (name : List ℕ) (positions : List Position) → IsKept s → IsKept (with_acknowledged s name positions)
kept_acknowledged s name positions kept =
    kept_taking s name (acknowledging positions) (forgetting name positions) (λ _. refl) (λ _. refl)
    (λ sub. part_retained sub.pending (λ p. not (is_one_of positions p))) (forgotten_seats name positions) kept

pub kept_redelivered : (s : State) (name : List ℕ) (positions : List Position) → IsKept s → IsKept (redelivered s name positions)
kept_redelivered s name positions kept =
    kept_taking s name (redelivering positions) (forgetting name positions) (λ _. refl) (λ _. refl)
    (λ sub. part_retained sub.pending (λ p. not (is_one_of positions p))) (forgotten_seats name positions) kept

-- a dead message is pending no longer
pub kept_died : (s : State) (name : List ℕ) (position : Position) (m : Member) → IsKept s → IsKept (died s name position m)
kept_died s name position m kept =
    let taken = kept_taking s name (burying (letter_of s position m)) (forgetting name (position ∷ [])) (λ _. refl) (λ _. refl)
    (λ sub. part_retained sub.pending (λ p. not (is_one_of (position ∷ []) p))) (forgotten_seats name (position ∷ [])) kept in
    record { rising = taken.rising; tended = taken.tended }

pub kept_moved : (s : State) (name : List ℕ) (letter : state.DeadLetter) → IsKept s → IsKept (moved s name letter)
kept_moved s name letter kept =
    kept_taking s name (moving letter) (forgetting name (letter.position ∷ [])) (λ _. refl) (λ _. refl)
    (λ sub. part_retained sub.pending (λ p. not (is_one_of (letter.position ∷ []) p))) (forgotten_seats name (letter.position ∷ [])) kept

emptied_seats : (n name : List ℕ) (number : ℕ) (m : Member) → is_seat name number (emptied_at n m) ≡ is_seat name number m
emptied_seats n name number m = same_seat_if (is_at n m) name number m (emptied m) refl

pub kept_sought : (s : State) (name : List ℕ) (count : ℕ) → IsKept s → IsKept (sought s name count)
kept_sought s name count kept =
    kept_taking s name (seeking (take count s.log)) (emptied_at name) (λ _. refl) (λ _. refl) (λ sub. part_empty sub.pending) (emptied_seats name) kept

pub kept_stored : (s : State) → IsKept s → IsKept (stored s)
kept_stored s kept = record {
  rising = kept.rising;
  tended = tended_mapped s.log s.members storing s.subscriptions (λ _. refl) (λ _. refl) (λ _. refl) kept.tended;
}

pub kept_stored_to : (s : State) (count ordinal : ℕ) → IsKept s → IsKept (stored_to s count ordinal)
kept_stored_to s count ordinal kept = record {
  rising = kept.rising;
  tended = tended_mapped s.log s.members (storing_below ordinal) s.subscriptions (λ _. refl) (λ _. refl) (λ _. refl) kept.tended;
}

pub kept_all_released : (s : State) (name : List ℕ) → IsKept s → IsKept (all_released name s)
kept_all_released s name kept =
    kept_taking s name releasing_all (emptied_at name) (λ _. refl) (λ _. refl) (λ sub. part_empty sub.pending) (emptied_seats name) kept

pub kept_taken_over : (s : State) (name : List ℕ) (before : Option ℕ) → IsKept s → IsKept (taken_over name before s)
kept_taken_over s name before kept = by (is_taken_over name before s)
  where
    by : (b : Bool) → IsKept (if b then all_released name s else s)
    by true = kept_all_released s name kept
    by false = kept

-- a message that is pending at the consumer falls due at another moment
pub kept_nacked : (s : State) (m : Member) (consumer : ℕ) (position : Position) (due : Option ℕ) → nacking_refused s consumer position (Some m) ≡ None → IsKept s
    → IsKept (record s { subscriptions = changed (is_named m.subscription) (holding position (record { consumer = consumer; due = due })) s.subscriptions })
kept_nacked s m consumer position due allowed kept = record {
  rising = kept.rising;
  tended = tended_taken s.log s.members s.members m.subscription (holding position (record { consumer = consumer; due = due })) s.subscriptions (λ sub. refl) (λ sub. refl)
      (λ sub found. part_held_again sub.pending position (record { consumer = consumer; due = due })
      (sym (ap (λ o. option_map_or (λ sub. is_held_by consumer (map_of.get sub.pending position)) o false) found) ∙ held))
      (λ name number t. t) kept.tended;
}
  where
    held : is_held_at s m.subscription consumer position ≡ true
    held = holds_unless_refused _ _ allowed

-- where a subscription goes
pub kept_dropped : (s : State) (name : List ℕ) → IsKept s → IsKept (record s { subscriptions = removed (is_named name) s.subscriptions })
kept_dropped s name kept = record { rising = kept.rising; tended = tended_removed s.log s.members name s.subscriptions kept.tended }

-- ---- members

pub kept_members : (s : State) (q : Member → Bool) (f : Member → Member) → ((name : List ℕ) (number : ℕ) (m : Member) → is_seat name number (f m) ≡ is_seat name number m) → IsKept s → IsKept (record s { members = changed q f s.members })
kept_members s q f same kept = record {
  rising = kept.rising;
  tended = tended_stay s.log s.members (changed q f s.members) s.subscriptions (seats_changed q f same s.members) kept.tended;
}

pub kinds_agree : (a b : Kind) → same_kind a b ≡ true → a ≡ b
kinds_agree Exclusive Exclusive e = refl
kinds_agree Failover Failover e = refl
kinds_agree Shared Shared e = refl
kinds_agree KeyShared KeyShared e = refl
kinds_agree a b e = absurd (true≢false (sym e))

-- where another kind may join, nobody is there, so that nothing is pending
pub nothing_pending : (s : State) (kind : Kind) (sub : Subscription) (name : List ℕ) (max_redeliver : ℕ) (dead_topic : TopicName) (ranges : Option (List HashRange)) → find (is_named name) s.subscriptions ≡ Some sub → same_kind sub.kind kind ≡ false → subscribing_refused s name kind max_redeliver dead_topic ranges ≡ None → IsTendedIn s.log s.members sub
    → (p : Position) (h : Held) → map_of.get sub.pending p ≡ Some h → ⊥
nothing_pending s kind sub name max_redeliver dead_topic ranges there other allowed tended p h is =
    let named : sub.name ≡ name = same_name sub.name name (found_passes (is_named name) s.subscriptions sub there) in
    let some : nat_lt 0 (length (members_of s name)) ≡ true =
    some_kept (is_seat name h.consumer) (is_at name) s.members (λ m. and_first (is_at name m) (is_member h.consumer m))
    (subst (λ (n : List ℕ). is_seated s.members n h.consumer ≡ true) named (tended.at_members p h is)) in
    let differs : has_kind s name kind ≡ false = ap (λ o. option_map_or (λ sub. same_kind sub.kind kind) o false) there ∙ other in
    true≢false (sym (ap₂ (λ a b. a && not b) some differs) ∙ not_refused _ _ _ allowed)

tended_joining : (s : State) (kind : Kind) (ranges : Option (List HashRange)) (m : Member) (sub : Subscription) → subscribing_refused s m.subscription kind m.max_redeliver m.dead_topic ranges ≡ None → find (is_named m.subscription) s.subscriptions ≡ Some sub → IsTendedIn s.log s.members sub → IsTendedIn s.log (s.members ++ m ∷ []) (joining kind ranges m.number sub)
tended_joining s kind ranges m sub allowed there tended = by (same_kind sub.kind kind) refl
  where
    by : (b : Bool) → same_kind sub.kind kind ≡ b → IsTended s.log (s.members ++ m ∷ []) sub.name kind sub.pending
    by true same =
        subst (λ (k : Kind). IsTended s.log (s.members ++ m ∷ []) sub.name k sub.pending) (kinds_agree sub.kind kind same)
        (tended_seats s.log s.members (s.members ++ m ∷ []) sub.name sub.kind sub.pending (seats_pushed s.members m) tended)
    by false other =
        tended_empty s.log (s.members ++ m ∷ []) sub.name kind sub.pending (nothing_pending s kind sub m.subscription m.max_redeliver m.dead_topic ranges there other allowed tended)

pub kept_joined : (s : State) (kind : Kind) (ranges : Option (List HashRange)) (initial : Initial) (m : Member) → subscribing_refused s m.subscription kind m.max_redeliver m.dead_topic ranges ≡ None → IsKept s → IsKept (with_member s kind ranges initial m)
kept_joined s kind ranges initial m allowed kept = record { rising = kept.rising; tended = by (find (is_named m.subscription) s.subscriptions) refl }
  where
    by : (o : Option Subscription) → find (is_named m.subscription) s.subscriptions ≡ o → AllTended s.log (s.members ++ m ∷ []) (if is_some o then changed (is_named m.subscription) (joining kind ranges m.number) s.subscriptions else placed (new_subscription m.subscription kind ranges m.number initial s.log) s.subscriptions)
    by (Some sub) found =
        tended_changed s.log s.log s.members (s.members ++ m ∷ []) m.subscription (joining kind ranges m.number) s.subscriptions (λ sub. refl)
        (λ sub _ t. tended_seats s.log s.members (s.members ++ m ∷ []) sub.name sub.kind sub.pending (seats_pushed s.members m) t)
        (λ sub there t. tended_joining s kind ranges m sub allowed there t) kept.tended
    by None none =
        tended_placed s.log s.members (s.members ++ m ∷ []) (new_subscription m.subscription kind ranges m.number initial s.log) s.subscriptions none_pending none (seats_pushed s.members m) kept.tended

-- a member that leaves is no other one
pub other_number : (consumer number : ℕ) (name : List ℕ) (m : Member) → is_member consumer m ≡ true → not (number == consumer) ≡ true → is_seat name number m ≡ false
other_number consumer number name m is differs = by (is_at name m)
  where
    apart : (a b c : ℕ) → (a == b) ≡ true → not (c == b) ≡ true → (a == c) ≡ false
    apart a b c e f = grind (arith, nat_tests)

    by : (b : Bool) → (b && is_member number m) ≡ false
    by true = apart m.number consumer number is differs
    by false = refl

pub tended_leaving : (s : State) (consumer : ℕ) (m : Member) (sub : Subscription) → find (is_member consumer) s.members ≡ Some m → IsTendedIn s.log s.members sub → IsTendedIn s.log (removed (is_member consumer) s.members) (leaving consumer sub)
tended_leaving s consumer m sub there tended =
    let keeps : Position → Bool = λ p. not (is_held_by consumer (map_of.get sub.pending p)) in
    let left : map_of.FinMap position_cmp Held = map_of.retain_keys sub.pending keeps in
    tended_members s.log s.members (removed (is_member consumer) s.members) sub.name sub.kind left
    (λ p h is t.
    let was = got_retained sub.pending keeps p h is in
    let other : not (h.consumer == consumer) ≡ true = sym (ap (λ o. not (is_held_by consumer o)) was.1) ∙ was.0 in
    any_removed (is_seat sub.name h.consumer) (is_member consumer) s.members m there
    (other_number consumer h.consumer sub.name m (found_passes (is_member consumer) s.members m there) other) ∙ t)
    (tended_part s.log s.members sub.name sub.kind sub.pending left (part_retained sub.pending keeps) tended)

pub kept_left : (s : State) (consumer : ℕ) (m : Member) → find (is_member consumer) s.members ≡ Some m → IsKept s → IsKept (without_member s consumer m.subscription)
kept_left s consumer m there kept = record {
  rising = kept.rising;
  tended = tended_changed s.log s.log s.members (removed (is_member consumer) s.members) m.subscription (leaving consumer) s.subscriptions (λ sub. refl)
      (λ sub elsewhere t.
      tended_members s.log s.members (removed (is_member consumer) s.members) sub.name sub.kind sub.pending
      (λ p h is at.
      any_removed (is_seat sub.name h.consumer) (is_member consumer) s.members m there
      (ap (λ b. b && is_member h.consumer m) (names_differ sub.name m.subscription elsewhere)) ∙ at) t)
      (λ sub found t. tended_leaving s consumer m sub there t) kept.tended;
}

-- ---- sending

pub kept_sent : (s : State) (name : List ℕ) (sub : Subscription) (e : Entry) (m : Member) (now : ℕ) → find (is_named name) s.subscriptions ≡ Some sub → IsEligible s sub e m → IsKept s → IsKept (sent s name sub e m now)
kept_sent s name sub e m now there eligible kept =
    let held : Held = record { consumer = m.number; due = due_after now m.ack_timeout } in
    let after = (sent s name sub e m now).members in
    let stay = seats_changed (is_member m.number) (given (record { message = e; count = count_of sub e.position })) (λ _ _ _. refl) s.members in
    let choice = chosen sub.kind s sub e m eligible.1 in
    record {
      rising = kept.rising;
      tended = tended_changed s.log s.log s.members after name (holding e.position held) s.subscriptions (λ sub. refl)
          (λ other _ t. tended_seats s.log s.members after other.name other.kind other.pending stay t)
          (λ found is t. subst (λ (z : Subscription). IsTendedIn s.log after (holding e.position held z)) (some_is _ sub found there is)
          (tended_seats s.log s.members after sub.name sub.kind (map_of.insert sub.pending e.position held) stay
          (tended_sent s.log s.members sub.name sub.kind sub.pending e held (one_of_position s.log s.ledger kept.rising)
          choice.in_log choice.seated choice.alone (kept.tended.first name sub there)))) kept.tended;
    }
