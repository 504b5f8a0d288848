-- What holds of two topics and the couriers between them, whatever happens.
use Rattle.std.proofs.Common.{◌≡◌, ℕ, ◌≤◌, List, [], ◌∷◌, ◌++◌, length, take, true, refl, ap, ◌∙◌, sym, subst, arith, inl, inr}
use Rattle.std.specs.Prelude.{nat_le, ◌&&◌, ◌+◌, ◌-◌, min, max, codes, nat_eq, false}
use Rattle.std.specs.List.{starts_with}
use mathlib.Core.List.{IsPrefix}
use Rattle.std.proofs.lemmas.Bool.Decides.{nat_tests}
use Rattle.std.proofs.lemmas.List.{append-nil}
use Rattle.position_core.specs.declared.topic_name.TopicName.{TopicName}
use Rattle.delivery_machine.specs.State.{State, DeadLetter}
use Rattle.delivery_machine.specs.Producing.{had}
use Rattle.delivery_machine.specs.Laws.{IsReached}
use Rattle.delivery_machine.specs.Run.{Answers}
use Rattle.delivery_machine.specs.Journals.{is_storing}
use Rattle.delivery_machine.specs.declared.event.Event.{Event}
use Rattle.delivery_machine.specs.declared.event.Event.TheVariants.{Stored, StoredTo}
use Rattle.delivery_machine.specs.declared.reply.Reply.{Reply}
use Rattle.delivery_machine.proofs.RunSteps.{split}
use Rattle.machine_laws.proofs.Growing.{grown_taken}
use Rattle.delivery_machine.proofs.Deciding.{and_first}
use Rattle.dead_letters.specs.declared.route.Route.{Route}
use Rattle.dead_letters.specs.declared.hand.Hand.{Hand}
use Rattle.dead_letters.specs.Worlds.{Topic, everything, in_state, World, is_for, done_with, says_stored}
use Rattle.dead_letters.proofs.Fronts.{front_same, front_trans, front_pushed, front_before, front_both, front_filtered, front_mapped, all_filtered}
use Rattle.dead_letters.proofs.Tags.{Tag, letter_tags, copy_tags, AreKnown, tags_kept}
use Rattle.dead_letters.proofs.LettersAt.{Letters}
use Rattle.dead_letters.proofs.SourceSteps.{IsCalm, Dies}
use Rattle.dead_letters.proofs.TargetSteps.{copies}
use Rattle.dead_letters.proofs.Outcomes.{Tells, IsDone, Outcome, outcome}
use Rattle.dead_letters.proofs.Topics.{all_kept, answer_goes, all_go_on, IsTopic}
use Rattle.dead_letters.proofs.Deaths.{dead_at, safe_at, safe_deaths, Stands, WasKept, IsBehind, behind_itself, stands_calm, behind_calm, stands_dies, behind_dies, stands_told, behind_told, safe_told, stands_done, behind_done, safe_done, safe_known}
use Rattle.dead_letters.proofs.Hands.{wanted, SourceGoes, HandHolds, HasCopy, IsInside, hand_stored}

-- ---- the topic that letters go to

-- the messages go on from the snapshot's, and none is durable that was not there then
pub record IsUnder (past s : Topic) : Type 0 where
  pub log : IsPrefix (everything past) (everything s)
  pub durable : s.state.gone + s.state.durable ≤ had past.state
  pub settled : past.state.gone + past.state.durable ≤ had past.state
  pub ordinal : past.state.next_ordinal ≤ s.state.next_ordinal

durable_stays : (s : State) (e : Event) (r : Reply) (t : State) → Answers s e r t → is_storing e ≡ false → t.gone + t.durable ≡ s.gone + s.durable
durable_stays s e r t h other = elim (split s e r t h) [
  | inl same ↦ ap (λ (u : State). u.gone + u.durable) same
  | inr taken ↦ (grown_taken s e r t taken.1).durable other
]

at_most : (a b : ℕ) → nat_le a b ≡ true → a ≤ b
at_most a b e = grind (arith, nat_tests)

durable_after : (past s : State) (e : Event) (r : Reply) (t : State) → Answers s e r t → says_stored past s e ≡ true → s.gone + s.durable ≤ had past → t.gone + t.durable ≤ had past
durable_after past s Stored r t h says low =
    elim (split s Stored r t h) [
      | inl same ↦ subst (λ (u : State). u.gone + u.durable ≤ had past) (sym same) low
      | inr taken ↦ subst (λ (u : State). u.gone + u.durable ≤ had past) (sym taken.1.1) (at_most _ _ (and_first _ _ says))
    ]
durable_after past s (StoredTo count ordinal) r t h says low =
    let told : count ≤ had past = at_most _ _ (and_first _ _ says) in
    elim (split s (StoredTo count ordinal) r t h) [
      | inl same ↦ subst (λ (u : State). u.gone + u.durable ≤ had past) (sym same) low
      | inr taken ↦ subst (λ (u : State). u.gone + u.durable ≤ had past) (sym taken.1.1) (further s.gone s.durable (length s.log) count (had past) low told)
    ]
  where
    further : (gone durable log count most : ℕ) → gone + durable ≤ most → count ≤ most → gone + max durable (min (count - gone) log) ≤ most
    further gone durable log count most low told = omega (arith, low, told)
durable_after past s e r t h says low = subst (λ (k : ℕ). k ≤ had past) (sym (durable_stays s e r t h refl)) low

-- ordinals are never taken back
pub ordinal_after : (s : State) (e : Event) (r : Reply) (t : State) → IsReached s → Answers s e r t → s.next_ordinal ≤ t.next_ordinal
ordinal_after s e r t reached h = by (outcome [] s e r t (all_kept s reached) h)
  where
    told : Tells s e t → s.next_ordinal ≤ t.next_ordinal
    told tells = let same = ap (λ (u : State). u.next_ordinal) tells.2 in omega arith

    dies : Dies [] s t → s.next_ordinal ≤ t.next_ordinal
    dies d = let next = d.next in omega arith

    by : Outcome [] s e r t → s.next_ordinal ≤ t.next_ordinal
    by (inl a) = elim a.1 [
      | inl calm ↦ calm.ordinal
      | inr other ↦ elim other [
        | inl d ↦ dies d
        | inr tells ↦ told tells
      ]
    ]
    by (inr done) = let next = done.next in omega arith

pub under_after : (past a : Topic) (e : Event) (r : Reply) (t : State) → IsReached a.state → Answers a.state e r t → says_stored past.state a.state e ≡ true → IsUnder past a → IsUnder past (in_state a t)
under_after past a e r t reached h says under = record {
  log = front_trans (everything past) (everything a) (everything (in_state a t)) under.log (all_go_on a t (answer_goes a.state e r t h));
  durable = durable_after past.state a.state e r t h says under.durable;
  settled = under.settled;
  ordinal = let low = under.ordinal in let up = ordinal_after a.state e r t reached h in omega arith;
}

-- what is stored says less than what was viewed
pub says_later : (a b s : State) (e : Event) → had a ≤ had b → a.next_ordinal ≤ b.next_ordinal → says_stored a s e ≡ true → says_stored b s e ≡ true
says_later a b s Stored logs ordinals says = both _ _ _ _ logs ordinals says
  where
    both : (p q u v : ℕ) → p ≤ q → u ≤ v → (nat_le (had s) p && nat_le s.next_ordinal u) ≡ true → (nat_le (had s) q && nat_le s.next_ordinal v) ≡ true
    both p q u v low lower says = grind (arith, nat_tests)
says_later a b s (StoredTo count ordinal) logs ordinals says = both _ _ _ _ logs ordinals says
  where
    both : (p q u v : ℕ) → p ≤ q → u ≤ v → (nat_le count p && nat_le ordinal u) ≡ true → (nat_le count q && nat_le ordinal v) ≡ true
    both p q u v low lower says = grind (arith, nat_tests)
says_later a b s e logs ordinals says = refl

module _ (route : Route) where
  -- the topic that letters die in, as it is, as it would go on from the snapshot that was taken last, and as it goes on from what is
  -- stored, and the deaths that were done with at each of these moments: no snapshot has a death that is not among those of now
  pub record SourceSide (now viewed stored : Topic) (moved moved_viewed moved_stored : List DeadLetter) : Type 0 where
    pub stands : Stands route.subscription now moved
    pub kept_viewed : WasKept route.subscription viewed moved_viewed
    pub kept_stored : WasKept route.subscription stored moved_stored
    pub behind_viewed : IsBehind route.subscription viewed moved_viewed now moved
    pub behind_stored : IsBehind route.subscription stored moved_stored now moved
    pub ordinals : stored.state.next_ordinal ≤ viewed.state.next_ordinal
    pub is : IsTopic route.name now
    pub viewed_is : IsTopic route.name viewed
    pub stored_is : IsTopic route.name stored

  -- the topic that they go to, in the same three forms: its messages go on from those of each snapshot
  pub record TargetSide (now viewed stored : Topic) : Type 0 where
    pub is : IsTopic route.name now
    pub viewed_is : IsTopic route.name viewed
    pub stored_is : IsTopic route.name stored
    pub under_viewed : IsUnder viewed now
    pub under_stored : IsUnder stored now
    pub lengths : had stored.state ≤ had viewed.state
    pub ordinals : stored.state.next_ordinal ≤ viewed.state.next_ordinal

  -- where all of it is stored
  pub all_source_stored : (t : Topic) (moved : List DeadLetter) → WasKept route.subscription t moved → IsTopic route.name t → SourceSide t t t moved moved moved
  all_source_stored t moved kept is = record {
    stands = kept.stands;
    kept_viewed = kept;
    kept_stored = kept;
    behind_viewed = behind_itself route.subscription t moved kept;
    behind_stored = behind_itself route.subscription t moved kept;
    ordinals = omega arith;
    is = is;
    viewed_is = is;
    stored_is = is;
  }

  under_itself : (u : Topic) → u.state.gone + u.state.durable ≤ had u.state → IsUnder u u
  under_itself u low = record { log = front_same (everything u); durable = low; settled = low; ordinal = omega arith }

  pub all_target_stored : (u : Topic) → u.state.gone + u.state.durable ≤ had u.state → IsTopic route.name u → TargetSide u u u
  all_target_stored u low is = record {
    is = is;
    viewed_is = is;
    stored_is = is;
    under_viewed = under_itself u low;
    under_stored = under_itself u low;
    lengths = omega arith;
    ordinals = omega arith;
  }

module _ (route : Route) (target : TopicName) where
  -- the couriers' messages are copies of the first safe deaths that went to the topic; those of the deaths that were done with are
  -- in what is stored, and in what was viewed
  pub record Holds (w : World) : Type 0 where
    pub named : starts_with nat_eq route.name (codes "dlq/") ≡ true
    pub source_side : SourceSide route w.source w.source_viewed w.source_stored w.moved w.moved_viewed w.moved_stored
    pub target_side : TargetSide route w.target w.target_viewed w.target_stored
    pub copied : IsPrefix (copy_tags (copies route.name (everything w.target))) (letter_tags (everything w.source) (wanted target (safe_deaths route.subscription w.source.state w.moved)))
    pub in_viewed : length (wanted target w.moved) ≤ length (copies route.name (everything w.target_viewed))
    pub in_stored : length (wanted target w.moved) ≤ length (copies route.name (everything w.target_stored))
    pub hands : (number : ℕ) → HandHolds route target w.source w.moved w.target w.target_stored w.target_viewed (w.hands number)
    pub alone : (a b : ℕ) → IsInside route target (w.hands a) → IsInside route target (w.hands b) → a ≡ b

  abbrev n : List ℕ
  n = route.subscription

  -- ---- one answer at the topic that letters die in

  pub record SourceMoves (w : World) (t : Topic) (after : List DeadLetter) : Type 0 where
    pub goes : SourceGoes n w.source w.moved t after
    pub stands : Stands n t after
    pub viewed : IsBehind n w.source_viewed w.moved_viewed t after
    pub stored : IsBehind n w.source_stored w.moved_stored t after

  calm_moves : (w : World) (t : Topic) → Holds w → IsPrefix (everything w.source) (everything t) → IsCalm n w.source.state t.state → SourceMoves w t w.moved
  calm_moves w t holds log calm = record {
    goes = record {
      safe = subst (λ (l : Letters). IsPrefix (safe_deaths n w.source.state w.moved) (w.moved ++ take l.1 l.0)) (sym calm.letters) (front_same (safe_deaths n w.source.state w.moved));
      done = front_same w.moved;
      log = log;
    };
    stands = stands_calm n w.source w.moved t calm log holds.source_side.stands;
    viewed = behind_calm n w.source_viewed w.moved_viewed w.source w.moved t calm log holds.source_side.behind_viewed;
    stored = behind_calm n w.source_stored w.moved_stored w.source w.moved t calm log holds.source_side.behind_stored;
  }

  dies_moves : (w : World) (t : Topic) → Holds w → IsPrefix (everything w.source) (everything t) → Dies n w.source.state t.state → SourceMoves w t w.moved
  dies_moves w t holds log dies = record {
    goes = record {
      safe = subst (λ (l : Letters). IsPrefix (safe_deaths n w.source.state w.moved) (w.moved ++ take l.1 l.0)) (sym dies.letters)
          (front_before w.moved (take (safe_at w.source.state n) (dead_at w.source.state n)) (take (safe_at w.source.state n) (dead_at w.source.state n ++ dies.letter ∷ []))
          (front_both (safe_at w.source.state n) (dead_at w.source.state n) (dead_at w.source.state n ++ dies.letter ∷ []) (front_pushed (dead_at w.source.state n) (dies.letter ∷ []))));
      done = front_same w.moved;
      log = log;
    };
    stands = stands_dies n w.source w.moved t dies log holds.source_side.stands;
    viewed = behind_dies n w.source_viewed w.moved_viewed w.source w.moved t dies log holds.source_side.behind_viewed;
    stored = behind_dies n w.source_stored w.moved_stored w.source w.moved t dies log holds.source_side.behind_stored;
  }

  told_moves : (w : World) (e : Event) (t : Topic) → Holds w → IsPrefix (everything w.source) (everything t) → says_stored w.source_stored.state w.source.state e ≡ true → Tells w.source.state e t.state → SourceMoves w t w.moved
  told_moves w e t holds log says tells =
      let s = w.source in
      let count = tells.0 in
      let ordinal = tells.1 in
      let to_stored : ordinal ≤ w.source_stored.state.next_ordinal = (tells.3 w.source_stored.state says).1 in
      let later = holds.source_side.ordinals in
      let to_viewed : ordinal ≤ w.source_viewed.state.next_ordinal = omega arith in
      record {
        goes = record { safe = safe_told n s.state t.state w.moved count ordinal tells.2; done = front_same w.moved; log = log };
        stands = stands_told n s w.moved t count ordinal tells.2 log holds.source_side.stands;
        viewed = behind_told n w.source_viewed w.moved_viewed s w.moved t count ordinal tells.2 log to_viewed holds.source_side.behind_viewed;
        stored = behind_told n w.source_stored w.moved_stored s w.moved t count ordinal tells.2 log to_stored holds.source_side.behind_stored;
      }

  done_moves : (w : World) (e : Event) (r : Reply) (t : Topic) → Holds w → IsPrefix (everything w.source) (everything t) → (done : IsDone n w.source.state e r t.state) → SourceMoves w t (w.moved ++ done.letter ∷ [])
  done_moves w e r t holds log done = record {
    goes = record {
      safe = subst (λ (ds : List DeadLetter). IsPrefix (safe_deaths n w.source.state w.moved) ds) (sym (safe_done n w.source w.moved e r t done)) (front_same (safe_deaths n w.source.state w.moved));
      done = front_pushed w.moved (done.letter ∷ []);
      log = log;
    };
    stands = stands_done n w.source w.moved e r t done log holds.source_side.stands;
    viewed = behind_done n w.source_viewed w.moved_viewed w.source w.moved e r t done log holds.source_side.behind_viewed;
    stored = behind_done n w.source_stored w.moved_stored w.source w.moved e r t done log holds.source_side.behind_stored;
  }

  by_outcome : (w : World) (e : Event) (r : Reply) (t : Topic) → Holds w → IsPrefix (everything w.source) (everything t) → says_stored w.source_stored.state w.source.state e ≡ true → Outcome n w.source.state e r t.state
      → SourceMoves w t (w.moved ++ done_with n w.source.state e r)
  by_outcome w e r t holds log says (inl a) =
      let same : w.moved ++ done_with n w.source.state e r ≡ w.moved = ap (λ (ds : List DeadLetter). w.moved ++ ds) a.0 ∙ append-nil w.moved in
      subst (SourceMoves w t) (sym same) (elim a.1 [
        | inl calm ↦ calm_moves w t holds log calm
        | inr other ↦ elim other [
          | inl dies ↦ dies_moves w t holds log dies
          | inr tells ↦ told_moves w e t holds log says tells
        ]
      ])
  by_outcome w e r t holds log says (inr done) =
      subst (SourceMoves w t) (sym (ap (λ (ds : List DeadLetter). w.moved ++ ds) done.done)) (done_moves w e r t holds log done)

  pub source_moves : (w : World) (e : Event) (r : Reply) (t : State) → Holds w → Answers w.source.state e r t → says_stored w.source_stored.state w.source.state e ≡ true
      → SourceMoves w (in_state w.source t) (w.moved ++ done_with n w.source.state e r)
  source_moves w e r t holds h says =
      by_outcome w e r (in_state w.source t) holds (all_go_on w.source t (answer_goes w.source.state e r t h)) says (outcome n w.source.state e r t (all_kept w.source.state holds.source_side.is.reached) h)

  -- ---- what the world is then

  pub copied_goes : (s : Topic) (moved : List DeadLetter) (t : Topic) (after : List DeadLetter) (tags : List Tag) → SourceGoes n s moved t after → AreKnown (everything s) (safe_deaths n s.state moved)
      → IsPrefix tags (letter_tags (everything s) (wanted target (safe_deaths n s.state moved))) → IsPrefix tags (letter_tags (everything t) (wanted target (safe_deaths n t.state after)))
  copied_goes s moved t after tags goes known copied =
      let g = wanted target (safe_deaths n s.state moved) in
      let same : letter_tags (everything t) g ≡ letter_tags (everything s) g = tags_kept (everything s) (everything t) g goes.log (all_filtered _ (is_for target) (safe_deaths n s.state moved) known) in
      front_trans tags (letter_tags (everything s) g) (letter_tags (everything t) (wanted target (safe_deaths n t.state after))) copied
      (subst (λ (ts : List Tag). IsPrefix ts (letter_tags (everything t) (wanted target (safe_deaths n t.state after)))) same
      (front_mapped _ g (wanted target (safe_deaths n t.state after)) (front_filtered (is_for target) (safe_deaths n s.state moved) (safe_deaths n t.state after) goes.safe)))

  pub with_source : (w : World) (t : Topic) (after : List DeadLetter) (hands : ℕ → Hand) → Holds w → IsTopic route.name t → SourceMoves w t after
      → length (wanted target after) ≤ length (copies route.name (everything w.target_viewed)) → length (wanted target after) ≤ length (copies route.name (everything w.target_stored))
      → ((number : ℕ) → HandHolds route target t after w.target w.target_stored w.target_viewed (hands number))
      → ((a b : ℕ) → IsInside route target (hands a) → IsInside route target (hands b) → a ≡ b)
      → Holds (record w { source = t; moved = after; hands = hands })
  with_source w t after hands holds is moves in_viewed in_stored held alone = record {
    named = holds.named;
    source_side = record {
      stands = moves.stands;
      kept_viewed = holds.source_side.kept_viewed;
      kept_stored = holds.source_side.kept_stored;
      behind_viewed = moves.viewed;
      behind_stored = moves.stored;
      ordinals = holds.source_side.ordinals;
      is = is;
      viewed_is = holds.source_side.viewed_is;
      stored_is = holds.source_side.stored_is;
    };
    target_side = holds.target_side;
    copied = copied_goes w.source w.moved t after (copy_tags (copies route.name (everything w.target))) moves.goes (safe_known n w.source w.moved holds.source_side.stands) holds.copied;
    in_viewed = in_viewed;
    in_stored = in_stored;
    hands = held;
    alone = alone;
  }

  pub with_target : (w : World) (u : Topic) (hands : ℕ → Hand) → Holds w → IsTopic route.name u → IsUnder w.target_viewed u → IsUnder w.target_stored u
      → IsPrefix (copy_tags (copies route.name (everything u))) (letter_tags (everything w.source) (wanted target (safe_deaths n w.source.state w.moved)))
      → ((number : ℕ) → HandHolds route target w.source w.moved u w.target_stored w.target_viewed (hands number))
      → ((a b : ℕ) → IsInside route target (hands a) → IsInside route target (hands b) → a ≡ b)
      → Holds (record w { target = u; hands = hands })
  with_target w u hands holds is under_viewed under_stored copied held alone = record {
    named = holds.named;
    source_side = holds.source_side;
    target_side = record {
      is = is;
      viewed_is = holds.target_side.viewed_is;
      stored_is = holds.target_side.stored_is;
      under_viewed = under_viewed;
      under_stored = under_stored;
      lengths = holds.target_side.lengths;
      ordinals = holds.target_side.ordinals;
    };
    copied = copied;
    in_viewed = holds.in_viewed;
    in_stored = holds.in_stored;
    hands = held;
    alone = alone;
  }

  -- another snapshot of the topic that letters die in is viewed or stored
  pub with_source_kept : (w : World) (viewed stored : Topic) (moved_viewed moved_stored : List DeadLetter) → Holds w → SourceSide route w.source viewed stored w.moved moved_viewed moved_stored
      → Holds (record w { source_viewed = viewed; source_stored = stored; moved_viewed = moved_viewed; moved_stored = moved_stored })
  with_source_kept w viewed stored moved_viewed moved_stored holds side = record {
    named = holds.named;
    source_side = side;
    target_side = holds.target_side;
    copied = holds.copied;
    in_viewed = holds.in_viewed;
    in_stored = holds.in_stored;
    hands = holds.hands;
    alone = holds.alone;
  }

  -- and of the one that they go to: each courier's copy is there
  pub with_target_kept : (w : World) (viewed stored : Topic) → Holds w → TargetSide route w.target viewed stored
      → length (wanted target w.moved) ≤ length (copies route.name (everything viewed)) → length (wanted target w.moved) ≤ length (copies route.name (everything stored))
      → ((before : List DeadLetter) → HasCopy route target before (everything w.target_stored) → HasCopy route target before (everything w.target_viewed)
      → HasCopy route target before (everything stored) × HasCopy route target before (everything viewed))
      → Holds (record w { target_viewed = viewed; target_stored = stored })
  with_target_kept w viewed stored holds side in_viewed in_stored keeps = record {
    named = holds.named;
    source_side = holds.source_side;
    target_side = side;
    copied = holds.copied;
    in_viewed = in_viewed;
    in_stored = in_stored;
    hands = λ number. hand_stored route target w.source w.moved w.target w.target_stored w.target_viewed stored viewed (w.hands number) keeps (holds.hands number);
    alone = holds.alone;
  }
