-- A courier publishes a copy: it is appended where it is not there, and is a duplicate where it is; and a letter is done with.
use Rattle.std.proofs.Common.{◌≡◌, ℕ, ◌+◌, ◌<◌, ◌≤◌, List, [], ◌∷◌, ◌++◌, map, length, take, Some, Option, Bool, true, false, cond, refl, ap, ap₂, ◌∙◌, sym, subst, arith, append_assoc, length-append, ◌⊎◌, inl, inr}
use Rattle.std.specs.Prelude.{ℤ, int_le, negsuc, ◌^◌, if◌then◌else◌}
use Rattle.std.specs.List.{AllByRecursion, find}
use Rattle.std.specs.Option.{option_map, unwrap_or}
use mathlib.Core.List.{IsPrefix}
use Rattle.std.proofs.lemmas.List.{append-nil, map-append, length-map}
use Rattle.position_core.specs.declared.topic_name.TopicName.{TopicName}
use Rattle.position_core.specs.declared.message.Entry.{Entry}
use Rattle.position_core.specs.declared.body.Content.{Content}
use Rattle.position_core.specs.declared.fault.Fault.{Fault}
use Rattle.position_core.specs.declared.fault.Fault.TheVariants.{NoMemory}
use Rattle.delivery_machine.specs.State.{State, Producer, DeadLetter}
use Rattle.delivery_machine.specs.Words.{is_producer, known, greatest, greatest_under, next_position}
use Rattle.delivery_machine.specs.Refusals.{is_duplicate}
use Rattle.delivery_machine.specs.Producing.{had, with_message, message_of, Publishes}
use Rattle.delivery_machine.specs.Run.{Answers, Takes}
use Rattle.delivery_machine.specs.declared.event.Event.TheVariants.{Publish, DeadDone}
use Rattle.delivery_machine.specs.declared.reply.Reply.{Reply}
use Rattle.delivery_machine.specs.declared.reply.Reply.TheVariants.{Refused, Published, Duplicate}
use Rattle.delivery_machine.proofs.Firsts.{some_elim}
use Rattle.delivery_machine.proofs.Tended.{some_is}
use Rattle.delivery_machine.proofs.Behind.{is_same_name}
use Rattle.dead_letters.specs.declared.route.Route.{Route}
use Rattle.dead_letters.specs.declared.hand.Hand.{Hand}
use Rattle.dead_letters.specs.declared.hand.Hand.TheVariants.{Empty, Joined, Copied, Leaves}
use Rattle.dead_letters.specs.declared.hand.Letter.{Letter}
use Rattle.dead_letters.specs.Moving.{after, sequence_of}
use Rattle.dead_letters.specs.Worlds.{Topic, everything, in_state, World, is_for, done_with, kept_for, with_hand}
use Rattle.dead_letters.proofs.Fronts.{front_pushed, front_before, front_length, front_filtered, front_of_taken, front_shorter, front_or_more, filtered_append, taken_whole, all_front, all_back, all_filtered}
use Rattle.dead_letters.proofs.Tags.{Tag, AreBelow, Rise, rise_front, rise_before, letter_tag, copy_tag, letter_tags, copy_tags}
use Rattle.dead_letters.proofs.Sequences.{above_greatest, within_greatest, later_sequence, above_none}
use Rattle.dead_letters.proofs.TargetSteps.{copies}
use Rattle.dead_letters.specs.Laws.{is_from}
use Rattle.dead_letters.proofs.Topics.{all_kept, all_had, all_more, signed_copies}
use Rattle.dead_letters.proofs.Outcomes.{Outcome, outcome}
use Rattle.dead_letters.proofs.Deaths.{dead_at, safe_at, safe_deaths}
use Rattle.dead_letters.proofs.Hands.{wanted, IsHeld, HandHolds, IsInside, IsCourier, HasCopy}
use Rattle.dead_letters.proofs.Invariant.{Holds as Stays}
use Rattle.dead_letters.proofs.Couriers.{source_by, target_by, only_inside, same_place}
use Rattle.dead_letters.proofs.CourierMoves.{quiet}

-- ---- tags and sequence numbers

pub sequences : (log : List Entry) → map (λ (e : Entry). e.sequence) log ≡ map (λ (t : Tag). t.0) (copy_tags log)
sequences [] = refl
sequences (e ∷ log) = ap (λ (zs : List ℤ). e.sequence ∷ zs) (sequences log)

-- those of earlier deaths are all less
all_less : (log : List Entry) (dead : List DeadLetter) (ordinal : ℕ) → ordinal ≤ 2 ^ 62 → AreBelow ordinal dead → AllByRecursion (λ y. int_le (sequence_of ordinal) y ≡ false) (map (λ (t : Tag). t.0) (letter_tags log dead))
all_less log [] ordinal room below = tt
all_less log (d ∷ dead) ordinal room below = (later_sequence d.ordinal ordinal below.0 room, all_less log dead ordinal room below.1)

module _ (route : Route) (target : TopicName) where
  abbrev n : List ℕ
  n = route.subscription

  abbrev Is : World → Type 0
  Is w = Stays route target w

  abbrev Held : World → Topic → Hand → Type 0
  Held w u hand = HandHolds route target w.source w.moved u w.target_stored w.target_viewed hand

  abbrev Goal : World → ℕ → Hand → State → Type 0
  Goal w number hand u = Is (record w { target = in_state w.target u; hands = with_hand number (kept_for target hand) w.hands })

  abbrev Wanted : World → List Tag
  Wanted w = letter_tags (everything w.source) (wanted target (safe_deaths n w.source.state w.moved))

  module _ (w : World) (l : Letter) (holds : Is w) (held : IsHeld route target w.source w.moved l) where
    abbrev before_tags : List Tag
    before_tags = letter_tags (everything w.source) (wanted target held.before)

    abbrev after_tags : List Tag
    after_tags = letter_tags (everything w.source) (wanted target held.after)

    own_ordinal : l.ordinal ≡ held.letter.ordinal
    own_ordinal = ap (λ (x : Letter). x.ordinal) held.is

    own_tag : letter_tag (everything w.source) held.letter ≡ (sequence_of l.ordinal, Some l.message.body)
    own_tag =
        ap₂ (λ (z : ℤ) (o : Option Content). (z, o)) (ap sequence_of (sym own_ordinal))
        (ap (λ o. option_map (λ (e : Entry). e.body) o) held.found ∙ ap (λ (x : Letter). Some x.message.body) (sym held.is))

    parts : Wanted w ≡ before_tags ++ letter_tag (everything w.source) held.letter ∷ after_tags
    parts =
        ap (λ (ds : List DeadLetter). letter_tags (everything w.source) (wanted target ds)) held.stands
        ∙ ap (letter_tags (everything w.source)) (filtered_append (is_for target) held.before (held.letter ∷ held.after) ∙ ap (λ (b : Bool). wanted target held.before ++ cond b (held.letter ∷ wanted target held.after) (wanted target held.after)) held.for_target)
        ∙ map-append (letter_tag (everything w.source)) (wanted target held.before) (held.letter ∷ wanted target held.after)

    -- those before the letter are done with, and have their copies
    few : length (wanted target held.before) ≤ length (copies route.name (everything w.target))
    few =
        let to_before : IsPrefix held.before (safe_deaths n w.source.state w.moved) = (held.letter ∷ held.after, sym held.stands) in
        let to_moved : IsPrefix w.moved (safe_deaths n w.source.state w.moved) = front_pushed w.moved _ in
        let front = front_shorter held.before w.moved (safe_deaths n w.source.state w.moved) to_before to_moved held.early in
        let a = front_length (wanted target held.before) (wanted target w.moved) (front_filtered (is_for target) held.before w.moved front) in
        let b = holds.in_stored in
        let c = front_length (copies route.name (everything w.target_stored)) (copies route.name (everything w.target)) (front_filtered _ (everything w.target_stored) (everything w.target) holds.target_side.under_stored.log) in
        omega arith

    rises : Rise (held.before ++ held.letter ∷ held.after)
    rises =
        let front = front_before w.moved _ (dead_at w.source.state n) (front_of_taken (safe_at w.source.state n) (dead_at w.source.state n)) in
        subst Rise held.stands (rise_front (safe_deaths n w.source.state w.moved) front.0 (subst Rise (sym front.1) holds.source_side.stands.rise))

    earlier : AreBelow held.letter.ordinal (wanted target held.before)
    earlier = all_filtered _ (is_for target) held.before (rise_before held.before held.letter held.after rises)

    room : held.letter.ordinal ≤ 2 ^ 62
    room =
        let s = w.source.state in
        let front = front_before w.moved _ (dead_at s n) (front_of_taken (safe_at s n) (dead_at s n)) in
        let all = all_front _ (safe_deaths n s w.moved) front.0 (subst (AreBelow s.next_ordinal) (sym front.1) holds.source_side.stands.below) in
        let own = (all_back (λ (d : DeadLetter). d.ordinal < s.next_ordinal) held.before (held.letter ∷ held.after) (subst (AreBelow s.next_ordinal) held.stands all)).0 in
        let last = (all_kept s holds.source_side.is.reached).well.ordinals in
        let most = last.last_ordinal in
        omega arith

    -- the copy is not there yet, or it is
    abbrev Choice : Type 0
    Choice =
        ((copy_tags (copies route.name (everything w.target)) ≡ before_tags) × ((more : List Tag) × (before_tags ++ letter_tag (everything w.source) held.letter ∷ more ≡ Wanted w)))
        ⊎ ((us : List Tag) × (copy_tags (copies route.name (everything w.target)) ≡ before_tags ++ letter_tag (everything w.source) held.letter ∷ us))

    choice : Choice
    choice =
        let xs = copy_tags (copies route.name (everything w.target)) in
        let low : length before_tags ≤ length xs = subst (λ (k : ℕ). k ≤ length xs) (sym (length-map (wanted target held.before) (letter_tag (everything w.source)))) (subst (λ (k : ℕ). length (wanted target held.before) ≤ k) (sym (length-map (copies route.name (everything w.target)) copy_tag)) few) in
        elim (front_or_more xs holds.copied.0 before_tags (letter_tag (everything w.source) held.letter) after_tags (holds.copied.1 ∙ parts) low) [
          | inl a ↦ inl (a.0, (after_tags, sym parts))
          | inr b ↦ inr b
        ]

    -- ---- the copy is published

    module _ (number p now : ℕ) (inside : IsInside route target (w.hands number)) (courier : IsCourier route target w.target.state p) where
      abbrev q : Producer
      q = courier.0

      abbrev entry : Entry
      entry = message_of w.target.state q (sequence_of l.ordinal) l.message.body now

      numbers : greatest_under q.name (known w.target.state) ≡ greatest (map (λ (t : Tag). t.0) (copy_tags (copies route.name (everything w.target))))
      numbers =
          ap (λ (name : List ℕ). greatest_under name (known w.target.state)) courier.2 ∙ holds.target_side.is.numbers
          ∙ ap greatest (signed_copies route.name (everything w.target) ∙ sequences (copies route.name (everything w.target)))

      fresh_number : copy_tags (copies route.name (everything w.target)) ≡ before_tags → is_duplicate w.target.state q (sequence_of l.ordinal) ≡ false
      fresh_number is =
          let own : sequence_of l.ordinal ≡ sequence_of held.letter.ordinal = ap sequence_of own_ordinal in
          let less = all_less (everything w.source) (wanted target held.before) held.letter.ordinal room earlier in
          ap₂ (λ (x : ℤ) (o : Option ℤ). int_le x (unwrap_or o q.base)) own (numbers ∙ ap (λ (ts : List Tag). greatest (map (λ (t : Tag). t.0) ts)) is)
          ∙ ap (λ (b : ℤ). int_le (sequence_of held.letter.ordinal) (unwrap_or (greatest (map (λ (t : Tag). t.0) before_tags)) b)) courier.3
          ∙ above_greatest (map (λ (t : Tag). t.0) before_tags) (negsuc 0) (sequence_of held.letter.ordinal) less (above_none held.letter.ordinal)

      old_number : (us : List Tag) → copy_tags (copies route.name (everything w.target)) ≡ before_tags ++ letter_tag (everything w.source) held.letter ∷ us → is_duplicate w.target.state q (sequence_of l.ordinal) ≡ true
      old_number us is =
          let zs : map (λ (t : Tag). t.0) (copy_tags (copies route.name (everything w.target))) ≡ map (λ (t : Tag). t.0) before_tags ++ sequence_of held.letter.ordinal ∷ map (λ (t : Tag). t.0) us =
          ap (map (λ (t : Tag). t.0)) is ∙ map-append (λ (t : Tag). t.0) before_tags (letter_tag (everything w.source) held.letter ∷ us) in
          let own : sequence_of l.ordinal ≡ sequence_of held.letter.ordinal = ap sequence_of own_ordinal in
          ap₂ (λ (x : ℤ) (o : Option ℤ). int_le x (unwrap_or o q.base)) own (numbers ∙ ap greatest zs)
          ∙ within_greatest (map (λ (t : Tag). t.0) before_tags) (sequence_of held.letter.ordinal) (map (λ (t : Tag). t.0) us) q.base

      -- it is appended
      abbrev Asked : Reply → State → Type 0
      Asked r u = Answers w.target.state (Publish p (sequence_of l.ordinal) l.message.body now) r u

      more_copies : copies route.name (everything w.target ++ entry ∷ []) ≡ copies route.name (everything w.target) ++ entry ∷ []
      more_copies = filtered_append (is_from route.name) (everything w.target) (entry ∷ []) ∙ ap (λ (b : Bool). copies route.name (everything w.target) ++ cond b (entry ∷ []) []) (is_same_name q.name route.name courier.2)

      -- so many as the topic has had
      all_there : length (everything w.target) ≡ had w.target.state
      all_there = all_had route.name w.target holds.target_side.is

      appended : (r : Reply) (u : State) → Asked r u → u ≡ with_message w.target.state entry → copy_tags (copies route.name (everything w.target)) ≡ before_tags → ((more : List Tag) × (before_tags ++ letter_tag (everything w.source) held.letter ∷ more ≡ Wanted w))
          → Goal w number (Copied l p (had w.target.state + 1)) u
      appended r u h is new more =
          let log : everything (in_state w.target u) ≡ everything w.target ++ entry ∷ [] = all_more w.target u (entry ∷ []) (ap (λ (x : State). x.gone) is) (ap (λ (x : State). x.log) is) in
          let now_copies : copies route.name (everything (in_state w.target u)) ≡ copies route.name (everything w.target) ++ entry ∷ [] = ap (copies route.name) log ∙ more_copies in
          let tags : copy_tags (copies route.name (everything (in_state w.target u))) ≡ before_tags ++ letter_tag (everything w.source) held.letter ∷ [] =
          ap copy_tags now_copies ∙ map-append copy_tag (copies route.name (everything w.target)) (entry ∷ [])
          ∙ ap₂ (λ (xs : List Tag) (x : Tag). xs ++ x ∷ []) new (sym own_tag) in
          let grown : length (everything (in_state w.target u)) ≡ had w.target.state + 1 = ap length log ∙ length-append (everything w.target) (entry ∷ []) ∙ ap (λ (k : ℕ). k + 1) all_there in
          let whole : take (had w.target.state + 1) (everything (in_state w.target u)) ≡ (everything (in_state w.target u)) = ap (λ (k : ℕ). take k (everything (in_state w.target u))) (sym grown) ∙ taken_whole (everything (in_state w.target u)) in
          let size : length (copies route.name (everything (in_state w.target u))) ≡ length (wanted target held.before) + 1 =
          sym (length-map (copies route.name (everything (in_state w.target u))) copy_tag) ∙ ap length tags ∙ length-append before_tags (letter_tag (everything w.source) held.letter ∷ []) ∙ ap (λ (k : ℕ). k + 1) (length-map (wanted target held.before) (letter_tag (everything w.source))) in
          let there : length (wanted target held.before) < length (copies route.name (everything (in_state w.target u))) = omega arith in
          target_by route target w number (Copied l p (had w.target.state + 1)) (Publish p (sequence_of l.ordinal) l.message.body now) r u holds h refl refl
          (subst (λ (xs : List Tag). IsPrefix xs (Wanted w)) (sym tags) (more.0, append_assoc before_tags (letter_tag (everything w.source) held.letter ∷ []) more.0 ∙ more.1))
          (λ i other one. absurd (only_inside route target w number holds inside i other one))
          (held, subst (λ (x : State). IsCourier route target x p) (sym is) courier, subst (λ (xs : List Entry). length (wanted target held.before) < length (copies route.name xs)) (sym whole) there)
          (λ _. only_inside route target w number holds inside)

      -- it is there
      repeated : (r : Reply) (u : State) → Asked r u → u ≡ w.target.state → (us : List Tag) → copy_tags (copies route.name (everything w.target)) ≡ before_tags ++ letter_tag (everything w.source) held.letter ∷ us
          → Goal w number (Copied l p (had w.target.state)) u
      repeated r u h is us tags =
          let size : length (copies route.name (everything w.target)) ≡ length (wanted target held.before) + (length us + 1) =
          sym (length-map (copies route.name (everything w.target)) copy_tag) ∙ ap length tags ∙ length-append before_tags (letter_tag (everything w.source) held.letter ∷ us)
          ∙ ap₂ (λ (a b : ℕ). a + b) (length-map (wanted target held.before) (letter_tag (everything w.source))) (one_more us) in
          let there : length (wanted target held.before) < length (copies route.name (everything w.target)) = omega arith in
          quiet route target w number (Copied l p (had w.target.state)) (Publish p (sequence_of l.ordinal) l.message.body now) r u holds h (λ s. refl) is
          (held, courier, subst (λ (xs : List Entry). length (wanted target held.before) < length (copies route.name xs)) (sym (ap (λ (k : ℕ). take k (everything w.target)) (sym all_there) ∙ taken_whole (everything w.target))) there)
          (λ _. inside)
        where
          one_more : (us : List Tag) → length (letter_tag (everything w.source) held.letter ∷ us) ≡ length us + 1
          one_more us = omega arith

      abbrev Outcomes : Reply → State → Type 0
      Outcomes r u = Goal w number (after (Joined l p) r) u

      publishes : (r : Reply) (u : State) → Asked r u → Publishes w.target.state q (sequence_of l.ordinal) l.message.body now r u → Outcomes r u
      publishes r u h said = elim choice [
        | inl a ↦
            let new = fresh_number a.0 in
            let reply : r ≡ Published (next_position w.target.state) (had w.target.state + 1) = said.0 ∙ ap (λ b. if b then Duplicate (had w.target.state) else Published (next_position w.target.state) (had w.target.state + 1)) new in
            let is : u ≡ with_message w.target.state entry = said.1 ∙ ap (λ b. if b then w.target.state else with_message w.target.state entry) new in
            subst (λ (x : Reply). Outcomes x u) (sym reply) (appended r u h is a.0 a.1)
        | inr b ↦
            let old = old_number b.0 b.1 in
            let reply : r ≡ Duplicate (had w.target.state) = said.0 ∙ ap (λ b. if b then Duplicate (had w.target.state) else Published (next_position w.target.state) (had w.target.state + 1)) old in
            let is : u ≡ w.target.state = said.1 ∙ ap (λ b. if b then w.target.state else with_message w.target.state entry) old in
            subst (λ (x : Reply). Outcomes x u) (sym reply) (repeated r u h is b.0 b.1)
      ]

      taken : (r : Reply) (u : State) → Asked r u → Takes w.target.state (Publish p (sequence_of l.ordinal) l.message.body now) r u → Outcomes r u
      taken r u h t =
          some_elim (find (is_producer p) w.target.state.producers) _ (Outcomes r u) t (λ other found said.
          publishes r u h (subst (λ (x : Producer). Publishes w.target.state x (sequence_of l.ordinal) l.message.body now r u) (some_is _ other q found courier.1) said))

      gives_up : (fault : Fault) (u : State) → Asked (Refused fault) u → u ≡ w.target.state → Goal w number (Leaves p) u
      gives_up fault u h is = quiet route target w number (Leaves p) (Publish p (sequence_of l.ordinal) l.message.body now) (Refused fault) u holds h (λ s. refl) is courier (λ _. inside)

      pub joined_moves : (r : Reply) (u : State) → Asked r u → Outcomes r u
      joined_moves (Refused NoMemory) u h = gives_up NoMemory u h h.2
      joined_moves (Refused fault) u h = gives_up fault u h h.1
      joined_moves r u h = taken r u h h.1

    -- ---- the letter is done with

    done_after : (w.moved ≡ held.before → (e : DeadLetter) → length (wanted target (w.moved ++ e ∷ [])) ≤ length (wanted target held.before) + 1)
    done_after is e =
        let at_most = most (is_for target e) in
        let size : length (wanted target (w.moved ++ e ∷ [])) ≡ length (wanted target w.moved) + length (cond (is_for target e) (e ∷ []) []) =
        ap length (filtered_append (is_for target) w.moved (e ∷ [])) ∙ length-append (wanted target w.moved) (cond (is_for target e) (e ∷ []) []) in
        let same = ap (λ (ds : List DeadLetter). length (wanted target ds)) is in
        omega arith
      where
        most : (b : Bool) → length (cond b (e ∷ []) []) ≤ 1
        most true = omega arith
        most false = omega arith

    -- the letter that is done with is the one in the hand
    own_place : (e : DeadLetter) (rest : List DeadLetter) → safe_deaths n w.source.state w.moved ≡ w.moved ++ e ∷ rest → e.ordinal ≡ l.ordinal → w.moved ≡ held.before
    own_place e rest is same = sym (same_place held.before held.after w.moved rest held.letter e rises (sym held.stands ∙ is) (sym own_ordinal ∙ sym same))

    counts : (log : List Entry) → HasCopy route target held.before log → length (wanted target w.moved) ≤ length (copies route.name log) → (r : Reply) (t : State) → Outcome n w.source.state (DeadDone n l.ordinal) r t
        → length (wanted target (w.moved ++ done_with n w.source.state (DeadDone n l.ordinal) r)) ≤ length (copies route.name log)
    counts log has low r t (inl a) = subst (λ (ds : List DeadLetter). length (wanted target ds) ≤ length (copies route.name log)) (sym (ap (λ (ds : List DeadLetter). w.moved ++ ds) a.0 ∙ append-nil w.moved)) low
    counts log has low r t (inr done) =
        let ordinal : l.ordinal ≡ done.letter.ordinal = let e = done.event in cc in
        let stands : safe_deaths n w.source.state w.moved ≡ w.moved ++ done.letter ∷ take done.count done.rest = ap (λ (x : List DeadLetter × ℕ). w.moved ++ take x.1 x.0) done.letters in
        let at = own_place done.letter (take done.count done.rest) stands (sym ordinal) in
        let most = done_after at done.letter in
        subst (λ (ds : List DeadLetter). length (wanted target (w.moved ++ ds)) ≤ length (copies route.name log)) (sym done.done) (omega arith)

    pub moved_moves : (number : ℕ) (r : Reply) (t : State) → HasCopy route target held.before (everything w.target_stored) → HasCopy route target held.before (everything w.target_viewed) → Answers w.source.state (DeadDone n l.ordinal) r t
        → Is (record w { source = in_state w.source t; moved = w.moved ++ done_with n w.source.state (DeadDone n l.ordinal) r; hands = with_hand number Empty w.hands })
    moved_moves number r t stored viewed h =
        let out = outcome n w.source.state (DeadDone n l.ordinal) r t (all_kept w.source.state holds.source_side.is.reached) h in
        source_by route target w number Empty (DeadDone n l.ordinal) r t holds h refl
        (counts (everything w.target_viewed) viewed holds.in_viewed r t out) (counts (everything w.target_stored) stored holds.in_stored r t out) tt (λ x. x)
