-- Each move of a courier leaves what holds of the world.
use Rattle.std.proofs.Common.{◌≡◌, ℕ, ◌+◌, ◌<◌, ◌≤◌, List, [], ◌∷◌, ◌++◌, map, length, take, Some, None, Option, Bool, true, false, cond, refl, ap, ◌∙◌, sym, subst, arith, true≢false, inl, inr}
use Rattle.std.specs.Prelude.{ℤ, nat_le, negsuc, ◌==◌, ◌||◌}
use Rattle.std.specs.List.{AllByRecursion, find, list_any}
use Rattle.std.specs.Str.{bytes_eq}
use mathlib.Core.List.{IsPrefix}
use Rattle.std.proofs.lemmas.Bool.Decides.{nat_tests}
use Rattle.std.proofs.lemmas.List.{append-nil}
use Rattle.std.proofs.lemmas.List.Elements.{recursion_from_All}
use Rattle.position_core.specs.declared.topic_name.TopicName.{TopicName}
use Rattle.position_core.specs.declared.message.Entry.{Entry}
use Rattle.position_core.specs.declared.fault.Fault.{Fault}
use Rattle.position_core.specs.declared.fault.Fault.TheVariants.{NoMemory, ProducerBusy}
use Rattle.delivery_machine.specs.State.{State, Producer, DeadLetter}
use Rattle.delivery_machine.specs.Words.{is_producer, is_connected}
use Rattle.delivery_machine.specs.Producing.{with_producer}
use Rattle.delivery_machine.specs.Run.{Answers}
use Rattle.delivery_machine.specs.declared.event.Event.{Event}
use Rattle.delivery_machine.specs.declared.event.Event.TheVariants.{AddProducer, DropProducer, Progress, DeadNext}
use Rattle.delivery_machine.specs.declared.reply.Reply.{Reply}
use Rattle.delivery_machine.specs.declared.reply.Reply.TheVariants.{Refused, ProducerAdded, Published, Duplicate}
use Rattle.delivery_machine.specs.declared.reply.Reply.TheVariants as reply
use Rattle.delivery_machine.proofs.Kept.{not_refused}
use Rattle.delivery_machine.proofs.RunSteps.{split}
use Rattle.delivery_machine.proofs.Deciding.{itself}
use Rattle.delivery_machine.proofs.Behind.{is_same_name}
use Rattle.dead_letters.specs.declared.route.Route.{Route}
use Rattle.dead_letters.specs.declared.hand.Hand.{Hand}
use Rattle.dead_letters.specs.declared.hand.Hand.TheVariants.{Empty, Holds, Joined, Copied, Leaves, Waits, Moved}
use Rattle.dead_letters.specs.declared.hand.Letter.{Letter}
use Rattle.dead_letters.specs.Moving.{after, stored_to}
use Rattle.dead_letters.specs.Worlds.{Topic, everything, in_state, World, says_stored, kept_for, with_hand}
use Rattle.dead_letters.proofs.Fronts.{front_length, front_filtered, front_within}
use Rattle.dead_letters.proofs.Tags.{Tag, letter_tags, copy_tags}
use Rattle.dead_letters.proofs.TargetSteps.{copies, StaysConnected, added}
use Rattle.dead_letters.proofs.Topics.{IsTopic, all_kept, all_had, all_same, itself_in}
use Rattle.dead_letters.proofs.Deaths.{safe_deaths}
use Rattle.dead_letters.proofs.Hands.{wanted, IsHeld, HandHolds, IsInside, IsCourier, HasCopy}
use Rattle.dead_letters.proofs.Invariant.{IsUnder, Holds as Stays, with_target}
use Rattle.dead_letters.proofs.Couriers.{source_by, target_by, next_hand, only_inside, alone_with, each_with}

-- ---- producers

none_found : (k : ℕ) (ps : List Producer) → AllByRecursion (λ m. m < k) (map (λ (p : Producer). p.number) ps) → find (is_producer k) ps ≡ None
none_found k [] below = refl
none_found k (p ∷ ps) below = ap (λ b. cond b (Some p) (find (is_producer k) ps)) (apart p.number k below.0) ∙ none_found k ps below.1
  where
    apart : (a b : ℕ) → a < b → (a == b) ≡ false
    apart a b low = grind (arith, nat_tests)

found_last : {A : Type 0} (p : A → Bool) (xs : List A) (x : A) → find p xs ≡ None → p x ≡ true → find p (xs ++ x ∷ []) ≡ Some x
found_last p [] x none own = ap (λ b. cond b (Some x) None) own
found_last p (y ∷ ys) x none own = by (p y) none (found_last p ys x)
  where
    by : (b : Bool) → cond b (Some y) (find p ys) ≡ None → (find p ys ≡ None → p x ≡ true → find p (ys ++ x ∷ []) ≡ Some x) → cond b (Some y) (find p (ys ++ x ∷ [])) ≡ Some x
    by true none rest = absurd (let i = none in cc)
    by false none rest = rest none own

connected_there : (number : ℕ) (name : List ℕ) (ps : List Producer) (p : Producer) → find (is_producer number) ps ≡ Some p → p.name ≡ name → list_any (λ (q : Producer). bytes_eq q.name name) ps ≡ true
connected_there number name [] p found named = absurd (let i = found in cc)
connected_there number name (q ∷ ps) p found named = by (is_producer number q) found (connected_there number name ps p)
  where
    any : (b c : Bool) → c ≡ true → (b || c) ≡ true
    any true c e = refl
    any false c e = e

    by : (b : Bool) → cond b (Some q) (find (is_producer number) ps) ≡ Some p → (find (is_producer number) ps ≡ Some p → p.name ≡ name → list_any (λ (r : Producer). bytes_eq r.name name) ps ≡ true)
        → (bytes_eq q.name name || list_any (λ (r : Producer). bytes_eq r.name name) ps) ≡ true
    by true found rest =
        let is : q ≡ p = cc in
        ap (λ b. b || list_any (λ (r : Producer). bytes_eq r.name name) ps) (is_same_name q.name name (ap (λ (r : Producer). r.name) is ∙ named))
    by false found rest = any (bytes_eq q.name name) _ (rest found named)

-- no message came, and none went
abbrev IsSame : State → State → Type 0
IsSame s u = (u.gone ≡ s.gone) × (u.log ≡ s.log)

module _ (route : Route) (target : TopicName) where
  abbrev n : List ℕ
  n = route.subscription

  abbrev Is : World → Type 0
  Is w = Stays route target w

  abbrev Held : World → Topic → Hand → Type 0
  Held w u hand = HandHolds route target w.source w.moved u w.target_stored w.target_viewed hand

  -- what is to hold once the courier's hand is so
  abbrev Goal : World → ℕ → Hand → State → Type 0
  Goal w number hand u = Is (record w { target = in_state w.target u; hands = with_hand number (kept_for target hand) w.hands })

  abbrev Wanted : World → List Tag
  Wanted w = letter_tags (everything w.source) (wanted target (safe_deaths n w.source.state w.moved))

  -- ---- an empty hand

  unmoved : (w : World) (k : ℕ) → length (wanted target w.moved) ≤ k → length (wanted target (w.moved ++ [])) ≤ k
  unmoved w k low = subst (λ (ds : List DeadLetter). length (wanted target ds) ≤ k) (sym (append-nil w.moved)) low

  pub empty_moves : (w : World) (number : ℕ) (r : Reply) (t : State) → Is w → Answers w.source.state (DeadNext n) r t
      → Is (record w { source = in_state w.source t; moved = w.moved ++ []; hands = with_hand number (kept_for target (after Empty r)) w.hands })
  empty_moves w number r t holds h =
      let shown = next_hand route target w.source w.moved w.target w.target_stored w.target_viewed holds.source_side.is.past r t h in
      source_by route target w number (kept_for target (after Empty r)) (DeadNext n) r t holds h refl
      (unmoved w (length (copies route.name (everything w.target_viewed))) holds.in_viewed) (unmoved w (length (copies route.name (everything w.target_stored))) holds.in_stored) shown.0 shown.1

  -- ---- a letter

  same_log : (w : World) (u : State) → Is w → IsSame w.target.state u → IsPrefix (copy_tags (copies route.name (everything (in_state w.target u)))) (Wanted w)
  same_log w u holds same = subst (λ (log : List Entry). IsPrefix (copy_tags (copies route.name log)) (Wanted w)) (sym (all_same w.target u same.0 same.1)) holds.copied

  pub quiet : (w : World) (number : ℕ) (hand : Hand) (e : Event) (r : Reply) (u : State) → Is w → Answers w.target.state e r u → ((s : State) → says_stored s w.target.state e ≡ true) → u ≡ w.target.state
      → HandHolds route target w.source w.moved w.target w.target_stored w.target_viewed hand → (IsInside route target hand → IsInside route target (w.hands number)) → Goal w number hand u
  quiet w number hand e r u holds h says is held inside =
      let same : in_state w.target u ≡ w.target = itself_in w.target u is in
      target_by route target w number hand e r u holds h (says w.target_stored.state) (says w.target_viewed.state)
      (same_log w u holds (ap (λ (s : State). s.gone) is, ap (λ (s : State). s.log) is))
      (λ i other one. subst (λ (s : State). StaysConnected route.name w.target.state.producers s.producers) (sym is) (λ k p found named. found))
      (subst (λ (s : Topic). Held w s hand) (sym same) held)
      (λ now. only_inside route target w number holds (inside now))

  -- who is inside is connected
  is_inside : (w : World) (hand : Hand) → Held w w.target hand → IsInside route target hand → is_connected w.target.state route.name ≡ true
  is_inside w (Joined l p) held one = connected_there p route.name w.target.state.producers held.1.0 held.1.1 held.1.2
  is_inside w (Copied l p count) held one = connected_there p route.name w.target.state.producers held.1.0 held.1.1 held.1.2
  is_inside w (Leaves p) held one = connected_there p route.name w.target.state.producers held.0 held.1 held.2
  is_inside w Empty held one = absurd one
  is_inside w (Holds l) held one = absurd one
  is_inside w (Waits l count) held one = absurd one
  is_inside w (Moved l) held one = absurd one

  -- the courier joins
  joins : (w : World) (number : ℕ) (l : Letter) (p : ℕ) (auto : Option ℕ) (last : ℤ) (u : State) → Is w → IsHeld route target w.source w.moved l → Answers w.target.state (AddProducer (Some route.name) (negsuc 0)) (ProducerAdded p auto last) u
      → Goal w number (Joined l p) u
  joins w number l p auto last u holds held h =
      let s = w.target.state in
      let new : Producer = record { number = s.next_producer; name = h.1.0; base = negsuc 0 } in
      let alone : is_connected s route.name ≡ false = not_refused (is_connected s route.name) ProducerBusy _ h.0 in
      let given : p ≡ s.next_producer = let e = h.1.3.0 in cc in
      let is : u ≡ with_producer s new = h.1.3.1 in
      let all = all_kept s holds.target_side.is.reached in
      let none : find (is_producer s.next_producer) s.producers ≡ None = none_found s.next_producer s.producers (recursion_from_All (λ (m : ℕ). m < s.next_producer) (map (λ (q : Producer). q.number) s.producers) (all.well.connected.numbers).below) in
      let there : IsCourier route target (with_producer s new) s.next_producer = (new, found_last (is_producer s.next_producer) s.producers new none (itself s.next_producer), h.1.2.0, refl) in
      target_by route target w number (Joined l p) (AddProducer (Some route.name) (negsuc 0)) (ProducerAdded p auto last) u holds h refl refl
      (same_log w u holds (ap (λ (x : State). x.gone) is, ap (λ (x : State). x.log) is))
      (λ i other one. subst (λ (x : State). StaysConnected route.name s.producers x.producers) (sym is) (added route.name s (new ∷ [])))
      (held, subst (λ (k : ℕ). IsCourier route target u k) (sym given) (subst (λ (x : State). IsCourier route target x s.next_producer) (sym is) there))
      (λ now i other one. true≢false (sym (is_inside w (w.hands i) (holds.hands i) one) ∙ alone))

  -- or does not
  same_at_all : (s : State) (e : Event) (fault : Fault) (u : State) → Answers s e (Refused fault) u → u ≡ s
  same_at_all s e NoMemory u h = h.2
  same_at_all s e fault u h = h.1

  not_joined : (w : World) (number : ℕ) (r : Reply) (u : State) → Is w → Answers w.target.state (AddProducer (Some route.name) (negsuc 0)) r u → IsSame w.target.state u
      → ((i : ℕ) → StaysConnected route.name w.target.state.producers u.producers) → Goal w number Empty u
  not_joined w number r u holds h same stays =
      target_by route target w number Empty (AddProducer (Some route.name) (negsuc 0)) r u holds h refl refl (same_log w u holds same) (λ i other one. stays i) tt (λ none. absurd none)

  adding : (s : State) (name : List ℕ) (r : Reply) (u : State) → Answers s (AddProducer (Some name) (negsuc 0)) r u → IsSame s u × StaysConnected route.name s.producers u.producers
  adding s name r u h = elim (split s (AddProducer (Some name) (negsuc 0)) r u h) [
    | inl same ↦ ((ap (λ (x : State). x.gone) same, ap (λ (x : State). x.log) same), subst (λ (x : State). StaysConnected route.name s.producers x.producers) (sym same) (λ k p found named. found))
    | inr taken ↦ ((ap (λ (x : State). x.gone) taken.1.3.1, ap (λ (x : State). x.log) taken.1.3.1), subst (λ (x : State). StaysConnected route.name s.producers x.producers) (sym taken.1.3.1) (added route.name s _))
  ]

  pub holds_moves : (w : World) (number : ℕ) (l : Letter) (r : Reply) (u : State) → Is w → IsHeld route target w.source w.moved l → Answers w.target.state (AddProducer (Some route.name) (negsuc 0)) r u → Goal w number (after (Holds l) r) u
  holds_moves w number l (ProducerAdded p auto last) u holds held h = joins w number l p auto last u holds held h
  holds_moves w number l r u holds held h = let add = adding w.target.state route.name r u h in not_joined w number r u holds h add.0 (λ i. add.1)

  -- ---- the courier leaves

  dropping : (s : State) (p : ℕ) (r : Reply) (u : State) → Answers s (DropProducer p) r u → IsSame s u
  dropping s p r u h = elim (split s (DropProducer p) r u h) [
    | inl same ↦ (ap (λ (x : State). x.gone) same, ap (λ (x : State). x.log) same)
    | inr taken ↦ (ap (λ (x : State). x.gone) taken.1.1, ap (λ (x : State). x.log) taken.1.1)
  ]

  goes_out : (w : World) (number : ℕ) (hand : Hand) (p : ℕ) (r : Reply) (u : State) → Is w → IsInside route target (w.hands number) → Answers w.target.state (DropProducer p) r u → Held w (in_state w.target u) hand → (IsInside route target hand → ⊥) → Goal w number hand u
  goes_out w number hand p r u holds inside h held outside =
      target_by route target w number hand (DropProducer p) r u holds h refl refl (same_log w u holds (dropping w.target.state p r u h))
      (λ i other one. absurd (only_inside route target w number holds inside i other one)) held (λ now. absurd (outside now))

  pub copied_moves : (w : World) (number : ℕ) (l : Letter) (p count : ℕ) (r : Reply) (u : State) → Is w → IsInside route target (w.hands number) → Held w w.target (Copied l p count) → Answers w.target.state (DropProducer p) r u
      → Goal w number (after (Copied l p count) r) u
  copied_moves w number l p count r u holds inside held h =
      goes_out w number (Waits l count) p r u holds inside h
      (held.0, subst (λ (log : List Entry). HasCopy route target (held.0).before (take count log)) (sym (let same = dropping w.target.state p r u h in all_same w.target u same.0 same.1)) held.2) (λ x. x)

  pub leaves_moves : (w : World) (number : ℕ) (p : ℕ) (r : Reply) (u : State) → Is w → IsInside route target (w.hands number) → Answers w.target.state (DropProducer p) r u → Goal w number (after (Leaves p) r) u
  leaves_moves w number p r u holds inside h = goes_out w number Empty p r u holds inside h tt (λ x. x)

  -- ---- the copy is waited for

  -- what is durable is in what is stored
  durable_copy : (past s : Topic) (before : List DeadLetter) (count : ℕ) → IsTopic route.name past → IsUnder past s → count ≤ s.state.gone + s.state.durable → HasCopy route target before (take count (everything s)) → HasCopy route target before (everything past)
  durable_copy past s before count is under low has =
      let top = under.durable in
      let all = all_had route.name past is in
      let within : IsPrefix (take count (everything s)) (everything past) =
      subst (λ (log : List Entry). IsPrefix (take count log) (everything past)) (under.log).1 (front_within count (everything past) (under.log).0 (omega (arith, top, all, low))) in
      let more = front_length (copies route.name (take count (everything s))) (copies route.name (everything past)) (front_filtered _ (take count (everything s)) (everything past) within) in
      omega arith

  progressed : (w : World) (number : ℕ) (l : Letter) (count durable all : ℕ) (u : State) → Is w → Held w w.target (Waits l count) → Answers w.target.state Progress (reply.Progress durable all) u → Goal w number (stored_to l count durable) u
  progressed w number l count durable all u holds held h = by (nat_le count durable) refl
    where
      same : u ≡ w.target.state
      same = h.1.1

      is : durable ≡ w.target.state.gone + w.target.state.durable
      is = let e = h.1.0 in cc

      at_most : (a b : ℕ) → nat_le a b ≡ true → a ≤ b
      at_most a b e = grind (arith, nat_tests)

      by : (b : Bool) → nat_le count durable ≡ b → Goal w number (cond b (Moved l) (Waits l count)) u
      by true e =
          let low : count ≤ w.target.state.gone + w.target.state.durable = subst (λ (k : ℕ). count ≤ k) is (at_most count durable e) in
          quiet w number (Moved l) Progress (reply.Progress durable all) u holds h (λ s. refl) same
          (held.0, durable_copy w.target_stored w.target (held.0).before count holds.target_side.stored_is holds.target_side.under_stored low held.1, durable_copy w.target_viewed w.target (held.0).before count holds.target_side.viewed_is holds.target_side.under_viewed low held.1)
          (λ none. absurd none)
      by false e = quiet w number (Waits l count) Progress (reply.Progress durable all) u holds h (λ s. refl) same held (λ none. absurd none)

  pub waits_moves : (w : World) (number : ℕ) (l : Letter) (count : ℕ) (r : Reply) (u : State) → Is w → Held w w.target (Waits l count) → Answers w.target.state Progress r u → Goal w number (after (Waits l count) r) u
  waits_moves w number l count (reply.Progress durable all) u holds held h = progressed w number l count durable all u holds held h
  waits_moves w number l count (Refused fault) u holds held h = quiet w number Empty Progress (Refused fault) u holds h (λ s. refl) (same_at_all w.target.state Progress fault u h) tt (λ none. absurd none)
  waits_moves w number l count r u holds held h = quiet w number Empty Progress r u holds h (λ s. refl) h.1.1 tt (λ none. absurd none)

  -- ---- moves that do not come to a topic

  changes_hand : (w : World) (number : ℕ) (hand : Hand) → Is w → Held w w.target hand → (IsInside route target hand → IsInside route target (w.hands number)) → Is (record w { hands = with_hand number hand w.hands })
  changes_hand w number hand holds held inside =
      with_target route target w w.target (with_hand number hand w.hands) holds holds.target_side.is holds.target_side.under_viewed holds.target_side.under_stored holds.copied
      (each_with (Held w w.target) number hand w.hands held (λ i other. holds.hands i))
      (alone_with route target w number hand holds (λ now. only_inside route target w number holds (inside now)))

  pub let_go_holds : (w : World) (number : ℕ) → Is w → Is (record w { hands = with_hand number Empty w.hands })
  let_go_holds w number holds = changes_hand w number Empty holds tt (λ none. absurd none)

  refused_hand : (w : World) (fault : Fault) (hand : Hand) → Held w w.target hand → Held w w.target (after hand (Refused fault))
  refused_hand w fault Empty held = tt
  refused_hand w fault (Holds l) held = tt
  refused_hand w fault (Joined l p) held = held.1
  refused_hand w fault (Copied l p count) held = (held.0, held.2)
  refused_hand w fault (Leaves p) held = tt
  refused_hand w fault (Waits l count) held = tt
  refused_hand w fault (Moved l) held = tt

  refused_inside : (fault : Fault) (hand : Hand) → IsInside route target (after hand (Refused fault)) → IsInside route target hand
  refused_inside fault Empty one = absurd one
  refused_inside fault (Holds l) one = absurd one
  refused_inside fault (Joined l p) one = tt
  refused_inside fault (Copied l p count) one = absurd one
  refused_inside fault (Leaves p) one = absurd one
  refused_inside fault (Waits l count) one = absurd one
  refused_inside fault (Moved l) one = absurd one

  pub turned_away_holds : (w : World) (number : ℕ) (fault : Fault) → Is w → Is (record w { hands = with_hand number (after (w.hands number) (Refused fault)) w.hands })
  turned_away_holds w number fault holds =
      changes_hand w number (after (w.hands number) (Refused fault)) holds (refused_hand w fault (w.hands number) (holds.hands number)) (refused_inside fault (w.hands number))
