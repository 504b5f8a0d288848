-- What a courier's move leaves: what holds of the world.
use Rattle.std.proofs.Common.{◌≡◌, ℕ, suc, ◌<◌, ◌≤◌, List, [], ◌∷◌, ◌++◌, length, take, Some, None, Option, Bool, true, false, cond, refl, ap, ◌∙◌, sym, subst, arith, true≢false}
use Rattle.std.specs.Prelude.{◌==◌, if◌then◌else◌}
use Rattle.std.specs.List.{AllByRecursion, find}
use Rattle.std.specs.Option.{option_map, option_map_or, option_and_then}
use mathlib.Core.List.{IsPrefix}
use Rattle.position_core.specs.declared.topic_name.TopicName.{TopicName}
use Rattle.position_core.specs.TopicName.{same_topic}
use Rattle.position_core.specs.declared.message.Entry.{Entry}
use Rattle.delivery_machine.specs.State.{State, Subscription, DeadLetter}
use Rattle.delivery_machine.specs.Words.{is_named, has_position}
use Rattle.delivery_machine.specs.Dying.{first_safe, next_letter}
use Rattle.delivery_machine.specs.Run.{Answers}
use Rattle.delivery_machine.specs.declared.event.Event.{Event}
use Rattle.delivery_machine.specs.declared.event.Event.TheVariants.{DeadNext}
use Rattle.delivery_machine.specs.declared.reply.Reply.{Reply}
use Rattle.delivery_machine.specs.declared.reply.Reply.TheVariants.{Dead, NoDead}
use Rattle.delivery_machine.proofs.Firsts.{some_elim}
use Rattle.delivery_machine.proofs.Deciding.{number_is, itself}
use Rattle.dead_letters.specs.declared.route.Route.{Route}
use Rattle.dead_letters.specs.declared.hand.Hand.{Hand}
use Rattle.dead_letters.specs.declared.hand.Hand.TheVariants.{Empty, Holds}
use Rattle.dead_letters.specs.Moving.{after, target_of}
use Rattle.dead_letters.specs.Worlds.{Topic, everything, in_state, World, is_for, done_with, says_stored, kept_for, with_hand}
use Rattle.dead_letters.proofs.Fronts.{all_back}
use Rattle.dead_letters.proofs.Tags.{Rise, letter_tags, copy_tags}
use Rattle.dead_letters.proofs.LettersAt.{Letters, letters_found}
use Rattle.dead_letters.proofs.SourceSteps.{letters_at}
use Rattle.dead_letters.proofs.TargetSteps.{copies, StaysConnected}
use Rattle.dead_letters.proofs.Topics.{Went, answer_goes, all_go_on, found_in_all, topic_after}
use Rattle.dead_letters.proofs.Outcomes.{first_of}
use Rattle.dead_letters.proofs.Deaths.{safe_deaths}
use Rattle.dead_letters.proofs.Hands.{wanted, IsHeld, HandHolds, IsInside, hand_source, hand_target}
use Rattle.dead_letters.proofs.Invariant.{under_after, Holds as Stays, source_moves, with_source, with_target}

-- ---- the hands

pub each_with : (P : Hand → Type 0) (number : ℕ) (hand : Hand) (hands : ℕ → Hand) → P hand → ((i : ℕ) → (i == number) ≡ false → P (hands i)) → (i : ℕ) → P (with_hand number hand hands i)
each_with P number hand hands own others i = by (i == number) refl
  where
    by : (b : Bool) → (i == number) ≡ b → P (cond b hand (hands i))
    by true e = own
    by false e = others i e

pub kept_either : (target : TopicName) (P : Hand → Type 0) (hand : Hand) → P Empty → P hand → P (kept_for target hand)
kept_either target P hand none own = by (target_of hand)
  where
    by : (o : Option TopicName) → P (option_map_or (λ name. if same_topic name target then hand else Empty) o hand)
    by None = own
    by (Some name) = by_test (same_topic name target)
      where
        by_test : (b : Bool) → P (cond b hand Empty)
        by_test true = own
        by_test false = none

-- ---- deaths of one ordinal

pub same_place : (xs ys us vs : List DeadLetter) (a b : DeadLetter) → Rise (xs ++ a ∷ ys) → xs ++ a ∷ ys ≡ us ++ b ∷ vs → a.ordinal ≡ b.ordinal → xs ≡ us
same_place [] ys [] vs a b rise e same = refl
same_place [] ys (u ∷ us) vs a b rise e same =
    let tails : ys ≡ us ++ b ∷ vs = cc in
    let above = (all_back (λ (d : DeadLetter). a.ordinal < d.ordinal) us (b ∷ vs) (subst (AllByRecursion (λ (d : DeadLetter). a.ordinal < d.ordinal)) tails rise.0)).0 in
    absurd (omega arith)
same_place (x ∷ xs) ys [] vs a b rise e same =
    let is : x ≡ b = cc in
    let above = (all_back (λ (d : DeadLetter). x.ordinal < d.ordinal) xs (a ∷ ys) rise.0).0 in
    let o = ap (λ (d : DeadLetter). d.ordinal) is in
    absurd (omega arith)
same_place (x ∷ xs) ys (u ∷ us) vs a b rise e same =
    let is : x ≡ u = cc in
    let tails : xs ++ a ∷ ys ≡ us ++ b ∷ vs = cc in
    let rest = same_place xs ys us vs a b rise.1 tails same in
    cc

module _ (route : Route) (target : TopicName) where
  abbrev n : List ℕ
  n = route.subscription

  abbrev Is : World → Type 0
  Is w = Stays route target w

  -- what is known of the hand
  abbrev Held : World → Hand → Type 0
  Held w hand = HandHolds route target w.source w.moved w.target w.target_stored w.target_viewed hand

  -- no other courier is inside
  abbrev IsOnly : World → ℕ → Type 0
  IsOnly w number = (i : ℕ) → (i == number) ≡ false → IsInside route target (w.hands i) → ⊥

  pub only_inside : (w : World) (number : ℕ) → Is w → IsInside route target (w.hands number) → IsOnly w number
  only_inside w number holds inside i other one =
      let same = holds.alone i number one inside in
      true≢false (sym (ap (λ (k : ℕ). k == number) same ∙ itself number) ∙ other)

  pub alone_with : (w : World) (number : ℕ) (hand : Hand) → Is w → (IsInside route target hand → IsOnly w number) → (a b : ℕ) → IsInside route target (with_hand number hand w.hands a) → IsInside route target (with_hand number hand w.hands b) → a ≡ b
  alone_with w number hand holds only a b = by (a == number) refl (b == number) refl
    where
      by : (p : Bool) → (a == number) ≡ p → (q : Bool) → (b == number) ≡ q → IsInside route target (cond p hand (w.hands a)) → IsInside route target (cond q hand (w.hands b)) → a ≡ b
      by true e true f x y = number_is a number e ∙ sym (number_is b number f)
      by true e false f x y = absurd (only x b f y)
      by false e true f x y = absurd (only y a e x)
      by false e false f x y = holds.alone a b x y

  -- the hand, where a letter for another topic is let go
  let_go : (w : World) (hand : Hand) → Held w hand → Held w (kept_for target hand)
  let_go w hand held = kept_either target (Held w) hand tt held

  inside_kept : (hand : Hand) → IsInside route target (kept_for target hand) → IsInside route target hand
  inside_kept hand = kept_either target (λ (h : Hand). IsInside route target h → IsInside route target hand) hand (λ none. absurd none) (λ x. x)

  -- ---- a courier's move at the topic that letters die in

  pub source_by : (w : World) (number : ℕ) (hand : Hand) (e : Event) (r : Reply) (t : State) → Is w → Answers w.source.state e r t → says_stored w.source_stored.state w.source.state e ≡ true
      → length (wanted target (w.moved ++ done_with n w.source.state e r)) ≤ length (copies route.name (everything w.target_viewed))
      → length (wanted target (w.moved ++ done_with n w.source.state e r)) ≤ length (copies route.name (everything w.target_stored))
      → Held w hand → (IsInside route target hand → ⊥)
      → Is (record w { source = in_state w.source t; moved = w.moved ++ done_with n w.source.state e r; hands = with_hand number hand w.hands })
  source_by w number hand e r t holds h says viewed stored held outside =
      let more = w.moved ++ done_with n w.source.state e r in
      let moves = source_moves route target w e r t holds h says in
      with_source route target w (in_state w.source t) more (with_hand number hand w.hands) holds (topic_after route.name holds.named w.source e r t h holds.source_side.is) moves viewed stored
      (each_with (HandHolds route target (in_state w.source t) more w.target w.target_stored w.target_viewed) number hand w.hands
      (hand_source route target w.source w.moved (in_state w.source t) more w.target w.target_stored w.target_viewed hand moves.goes held)
      (λ i other. hand_source route target w.source w.moved (in_state w.source t) more w.target w.target_stored w.target_viewed (w.hands i) moves.goes (holds.hands i)))
      (alone_with w number hand holds (λ inside. absurd (outside inside)))

  -- ---- at the topic that letters go to

  pub target_by : (w : World) (number : ℕ) (hand : Hand) (e : Event) (r : Reply) (u : State) → Is w → Answers w.target.state e r u → says_stored w.target_stored.state w.target.state e ≡ true → says_stored w.target_viewed.state w.target.state e ≡ true
      → IsPrefix (copy_tags (copies route.name (everything (in_state w.target u)))) (letter_tags (everything w.source) (wanted target (safe_deaths n w.source.state w.moved)))
      → ((i : ℕ) → (i == number) ≡ false → IsInside route target (w.hands i) → StaysConnected route.name w.target.state.producers u.producers)
      → HandHolds route target w.source w.moved (in_state w.target u) w.target_stored w.target_viewed hand
      → (IsInside route target hand → IsOnly w number)
      → Is (record w { target = in_state w.target u; hands = with_hand number (kept_for target hand) w.hands })
  target_by w number hand e r u holds h says says' copied stays held only =
      with_target route target w (in_state w.target u) (with_hand number (kept_for target hand) w.hands) holds (topic_after route.name holds.named w.target e r u h holds.target_side.is)
      (under_after w.target_viewed w.target e r u holds.target_side.is.reached h says' holds.target_side.under_viewed)
      (under_after w.target_stored w.target e r u holds.target_side.is.reached h says holds.target_side.under_stored)
      copied
      (each_with (HandHolds route target w.source w.moved (in_state w.target u) w.target_stored w.target_viewed) number (kept_for target hand) w.hands
      (kept_either target (HandHolds route target w.source w.moved (in_state w.target u) w.target_stored w.target_viewed) hand tt held)
      (λ i other. hand_target route target w.source w.moved w.target (in_state w.target u) w.target_stored w.target_viewed (w.hands i) (all_go_on w.target u (answer_goes w.target.state e r u h)) (stays i other) (holds.hands i)))
      (alone_with w number (kept_for target hand) holds (λ inside. only (inside_kept hand inside)))

  -- ---- the next letter is shown

  abbrev Shown : Topic → List DeadLetter → Topic → Topic → Topic → Hand → Type 0
  Shown s moved t stored viewed hand = HandHolds route target s moved t stored viewed hand × (IsInside route target hand → ⊥)

  shown_letter : (s : State) (sub : Subscription) (d : DeadLetter) (e : Entry) → next_letter s sub ≡ Some (d, e) → (first_safe sub ≡ Some d) × (find (has_position d.position) s.log ≡ Some e)
  shown_letter s sub d e is = by (first_safe sub) refl is
    where
      by_log : (x : DeadLetter) (o : Option Entry) → find (has_position x.position) s.log ≡ o → option_map {U = DeadLetter × Entry} (λ (y : Entry). (x, y)) o ≡ Some (d, e) → (x ≡ d) × (find (has_position d.position) s.log ≡ Some e)
      by_log x None f is = absurd (let i = is in cc)
      by_log x (Some y) f is =
          let both : ◌≡◌ {A = DeadLetter × Entry} (x, y) (d, e) = let i = is in cc in
          let same : x ≡ d = ap (λ (p : DeadLetter × Entry). p.0) both in
          let other : y ≡ e = ap (λ (p : DeadLetter × Entry). p.1) both in
          (same, subst (λ (z : DeadLetter). find (has_position z.position) s.log ≡ Some e) same (f ∙ ap Some other))

      by : (o : Option DeadLetter) → first_safe sub ≡ o → option_and_then (λ (x : DeadLetter). option_map {U = DeadLetter × Entry} (λ (y : Entry). (x, y)) (find (has_position x.position) s.log)) o ≡ Some (d, e)
          → (first_safe sub ≡ Some d) × (find (has_position d.position) s.log ≡ Some e)
      by None f is = absurd (let i = is in cc)
      by (Some x) f is = let both = by_log x (find (has_position x.position) s.log) refl is in (f ∙ ap Some both.0, both.1)

  held_first : (s : Topic) (moved : List DeadLetter) → AllByRecursion (Went s.state) s.past → (sub : Subscription) (d : DeadLetter) (e : Entry) → find (is_named n) s.state.subscriptions ≡ Some sub → next_letter s.state sub ≡ Some (d, e) → is_for target d ≡ true
      → IsHeld route target s moved (record { message = e; target = d.target; ordinal = d.ordinal })
  held_first s moved past sub d e found next for_target =
      let shown = shown_letter s.state sub d e next in
      let parts = first_of sub.dead sub.safe d shown.0 in
      let letters : letters_at s.state n ≡ (d ∷ parts.0, suc parts.1) = ap letters_found found ∙ ap (λ (ds : List DeadLetter). (ds, sub.safe)) parts.2 ∙ ap (λ (k : ℕ). (d ∷ parts.0, k)) parts.3 in
      record {
        before = moved;
        letter = d;
        after = take parts.1 parts.0;
        died = e;
        is = refl;
        found = found_in_all s d.position e past shown.1;
        for_target = for_target;
        stands = ap (λ (l : Letters). moved ++ take l.1 l.0) letters;
        early = omega arith;
      }

  shown_hand : (s : Topic) (moved : List DeadLetter) (t stored viewed : Topic) → AllByRecursion (Went s.state) s.past → (sub : Subscription) (message : Entry) (to : TopicName) (ordinal : ℕ) → find (is_named n) s.state.subscriptions ≡ Some sub
      → Dead message to ordinal ≡ option_map_or (λ (p : DeadLetter × Entry). Dead p.1 p.0.target p.0.ordinal) (next_letter s.state sub) NoDead
      → Shown s moved t stored viewed (kept_for target (Holds (record { message = message; target = to; ordinal = ordinal })))
  shown_hand s moved t stored viewed past sub message to ordinal found is = by (next_letter s.state sub) refl is
    where
      by : (o : Option (DeadLetter × Entry)) → next_letter s.state sub ≡ o → Dead message to ordinal ≡ option_map_or (λ (p : DeadLetter × Entry). Dead p.1 p.0.target p.0.ordinal) o NoDead
          → Shown s moved t stored viewed (kept_for target (Holds (record { message = message; target = to; ordinal = ordinal })))
      by None f is = absurd (let i = is in cc)
      by (Some p) f is = by_test (same_topic to target) refl
        where
          said : message ≡ p.1
          said = let i = is in cc

          goes : to ≡ p.0.target
          goes = let i = is in cc

          counts : ordinal ≡ p.0.ordinal
          counts = let i = is in cc

          same : (m k : Entry) (a b : TopicName) (o q : ℕ) → m ≡ k → a ≡ b → o ≡ q → IsHeld route target s moved (record { message = k; target = b; ordinal = q }) → IsHeld route target s moved (record { message = m; target = a; ordinal = o })
          same m k a b o q x y z held =
              subst (λ (v : Entry). IsHeld route target s moved (record { message = v; target = a; ordinal = o })) (sym x)
              (subst (λ (v : TopicName). IsHeld route target s moved (record { message = k; target = v; ordinal = o })) (sym y)
              (subst (λ (v : ℕ). IsHeld route target s moved (record { message = k; target = b; ordinal = v })) (sym z) held))

          by_test : (b : Bool) → same_topic to target ≡ b → Shown s moved t stored viewed (cond b (Holds (record { message = message; target = to; ordinal = ordinal })) Empty)
          by_test true e =
              (same message p.1 to p.0.target ordinal p.0.ordinal said goes counts (held_first s moved past sub p.0 p.1 found f (sym (ap (λ (name : TopicName). same_topic name target) goes) ∙ e)), λ x. x)
          by_test false e = (tt, λ x. x)

  pub next_hand : (s : Topic) (moved : List DeadLetter) (t stored viewed : Topic) → AllByRecursion (Went s.state) s.past → (r : Reply) (u : State) → Answers s.state (DeadNext n) r u → Shown s moved t stored viewed (kept_for target (after Empty r))
  next_hand s moved t stored viewed past (Dead message to ordinal) u h =
      some_elim (find (is_named n) s.state.subscriptions) _ (Shown s moved t stored viewed (kept_for target (Holds (record { message = message; target = to; ordinal = ordinal })))) h.1 (λ sub found h.
      shown_hand s moved t stored viewed past sub message to ordinal found h.0)
  next_hand s moved t stored viewed past r u h = (tt, λ x. x)
