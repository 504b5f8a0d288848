-- What each act but those of couriers leaves: what holds of the world.
use Rattle.std.proofs.Common.{◌≡◌, ℕ, ◌≤◌, List, [], ◌∷◌, ◌++◌, length, Bool, true, false, cond, refl, ap, ap₂, ◌∙◌, sym, subst, arith, true≢false, inl, inr}
use Rattle.std.specs.Prelude.{◌+◌, ◌==◌, ◌&&◌, not, codes, nat_eq}
use Rattle.std.proofs.lemmas.Bool.Decides.{nat_tests}
use Rattle.std.specs.List.{find, starts_with}
use Rattle.std.specs.Option.{option_map_or}
use Rattle.std.specs.Str.{bytes_eq}
use mathlib.Core.List.{IsPrefix}
use Rattle.std.proofs.lemmas.List.{append-nil}
use Rattle.position_core.specs.declared.topic_name.TopicName.{TopicName}
use Rattle.position_core.specs.declared.message.Entry.{Entry}
use Rattle.delivery_machine.specs.State.{State, Producer, DeadLetter}
use Rattle.delivery_machine.specs.Words.{is_producer}
use Rattle.delivery_machine.specs.Producing.{had}
use Rattle.delivery_machine.specs.Run.{Answers}
use Rattle.delivery_machine.specs.declared.event.Event.{Event}
use Rattle.delivery_machine.specs.declared.reply.Reply.{Reply}
use Rattle.delivery_machine.proofs.RunSteps.{split}
use Rattle.delivery_machine.proofs.Behind.{is_same_name}
use Rattle.topic_lives.specs.Deleting.{IsDeserted, IsDeletable}
use Rattle.dead_letters.specs.declared.route.Route.{Route}
use Rattle.dead_letters.specs.Worlds.{Topic, everything, in_state, new_topic, World, is_for, first_letter, done_with, says_stored, leaves_letters, leaves_couriers, gone_on, begun_again, idle, opened}
use Rattle.dead_letters.proofs.Fronts.{front_same, front_trans, front_pushed, front_length, front_filtered, front_mapped, filtered_append, all_filtered, all_front}
use Rattle.dead_letters.proofs.Tags.{Tag, letter_tags, copy_tags, AreKnown, tags_kept}
use Rattle.dead_letters.proofs.TargetSteps.{copies, IsApart, StaysConnected, target_apart, apart_itself}
use Rattle.dead_letters.proofs.Topics.{all_kept, answer_goes, all_go_on, all_had, same_copies, topic_after, topic_gone, topic_again, topic_new, IsTopic}
use Rattle.dead_letters.proofs.Outcomes.{IsDone, Outcome, outcome}
use Rattle.dead_letters.proofs.Deaths.{safe_deaths, Stands, WasKept, behind_viewed, kept_gone, kept_again, safe_stored, safe_gone, safe_again, safe_most, safe_known}
use Rattle.dead_letters.proofs.Hands.{wanted, SourceGoes, hand_source, hand_target, hand_stored, copy_kept}
use Rattle.dead_letters.proofs.Invariant.{IsUnder, under_after, says_later, all_source_stored, all_target_stored, Holds as Stays, source_moves, with_source, with_target, with_source_kept, with_target_kept, copied_goes}

module _ (route : Route) (target : TopicName) where
  abbrev n : List ℕ
  n = route.subscription

  abbrev Is : World → Type 0
  Is w = Stays route target w

  -- ---- the topic that letters die in

  not_true : (b : Bool) → not b ≡ true → b ≡ false
  not_true true e = absurd (true≢false (sym e))
  not_true false e = refl

  -- a letter that is not left to the couriers is not for the topic
  done_beside : (s : State) (e : Event) (r : Reply) (t : State) (done : IsDone n s e r t) → leaves_letters route target s e ≡ true → is_for target done.letter ≡ false
  done_beside s e r t done leaves =
      let own = done.letter.ordinal in
      let said : not (bytes_eq n n && option_map_or (λ (d : DeadLetter). d.ordinal == own && is_for target d) (first_letter s n) false) ≡ true =
      subst (λ (x : Event). leaves_letters route target s x ≡ true) done.event leaves in
      let tests : (bytes_eq n n && option_map_or (λ (d : DeadLetter). d.ordinal == own && is_for target d) (first_letter s n) false) ≡ (own == own && is_for target done.letter) =
      ap₂ (λ (b : Bool) o. b && option_map_or (λ (d : DeadLetter). d.ordinal == own && is_for target d) o false) (is_same_name n n refl) done.first in
      sym (ap (λ (b : Bool). b && is_for target done.letter) (itself own)) ∙ sym tests ∙ not_true _ said
    where
      itself : (k : ℕ) → (k == k) ≡ true
      itself k = grind (arith, nat_tests)

  wanted_same : (moved : List DeadLetter) (d : DeadLetter) → is_for target d ≡ false → wanted target (moved ++ d ∷ []) ≡ wanted target moved
  wanted_same moved d other =
      filtered_append (is_for target) moved (d ∷ []) ∙ ap (λ (b : Bool). wanted target moved ++ cond b (d ∷ []) []) other ∙ append-nil (wanted target moved)

  -- what else is done with does not count
  beside : (s : State) (e : Event) (r : Reply) (t : State) (moved : List DeadLetter) → Outcome n s e r t → leaves_letters route target s e ≡ true → wanted target (moved ++ done_with n s e r) ≡ wanted target moved
  beside s e r t moved (inl a) leaves = ap (λ (ds : List DeadLetter). wanted target (moved ++ ds)) a.0 ∙ ap (wanted target) (append-nil moved)
  beside s e r t moved (inr done) leaves =
      ap (λ (ds : List DeadLetter). wanted target (moved ++ ds)) done.done ∙ wanted_same moved done.letter (done_beside s e r t done leaves)

  pub at_source_holds : (w : World) (e : Event) (r : Reply) (t : State) → Is w → Answers w.source.state e r t → says_stored w.source_stored.state w.source.state e ≡ true → leaves_letters route target w.source.state e ≡ true
      → Is (record w { source = in_state w.source t; moved = w.moved ++ done_with n w.source.state e r; hands = w.hands })
  at_source_holds w e r t holds h says leaves =
      let after = w.moved ++ done_with n w.source.state e r in
      let moves = source_moves route target w e r t holds h says in
      let same = beside w.source.state e r t w.moved (outcome n w.source.state e r t (all_kept w.source.state holds.source_side.is.reached) h) leaves in
      with_source route target w (in_state w.source t) after w.hands holds (topic_after route.name holds.named w.source e r t h holds.source_side.is) moves
      (subst (λ (ds : List DeadLetter). length ds ≤ length (copies route.name (everything w.target_viewed))) (sym same) holds.in_viewed)
      (subst (λ (ds : List DeadLetter). length ds ≤ length (copies route.name (everything w.target_stored))) (sym same) holds.in_stored)
      (λ number. hand_source route target w.source w.moved (in_state w.source t) after w.target w.target_stored w.target_viewed (w.hands number) moves.goes (holds.hands number))
      holds.alone

  -- ---- the topic that letters go to

  apart : (s : State) (e : Event) (r : Reply) (t : State) → Answers s e r t → leaves_couriers route s e ≡ true → IsApart route.name s t
  apart s e r t h leaves = elim (split s e r t h) [
    | inl same ↦ subst (IsApart route.name s) (sym same) (apart_itself route.name s)
    | inr taken ↦ target_apart route s e r t leaves taken.1
  ]

  pub at_target_holds : (w : World) (e : Event) (r : Reply) (u : State) → Is w → Answers w.target.state e r u → says_stored w.target_stored.state w.target.state e ≡ true → leaves_couriers route w.target.state e ≡ true
      → Is (record w { target = in_state w.target u; hands = w.hands })
  at_target_holds w e r u holds h says leaves =
      let stays = apart w.target.state e r u h leaves in
      let goes = answer_goes w.target.state e r u h in
      with_target route target w (in_state w.target u) w.hands holds (topic_after route.name holds.named w.target e r u h holds.target_side.is)
      (under_after w.target_viewed w.target e r u holds.target_side.is.reached h (says_later w.target_stored.state w.target_viewed.state w.target.state e holds.target_side.lengths holds.target_side.ordinals says) holds.target_side.under_viewed)
      (under_after w.target_stored w.target e r u holds.target_side.is.reached h says holds.target_side.under_stored)
      (subst (λ (es : List Entry). IsPrefix (copy_tags es) (letter_tags (everything w.source) (wanted target (safe_deaths n w.source.state w.moved)))) (sym (same_copies route.name w.target u goes stays.goes)) holds.copied)
      (λ number. hand_target route target w.source w.moved w.target (in_state w.target u) w.target_stored w.target_viewed (w.hands number) (all_go_on w.target u goes) (λ _. stays.connected) (holds.hands number))
      holds.alone

  -- ---- snapshots

  pub view_source_holds : (w : World) → Is w → Is (record w { source_viewed = gone_on w.source; moved_viewed = w.moved })
  view_source_holds w holds =
      with_source_kept route target w (gone_on w.source) w.source_stored w.moved w.moved_stored holds (record {
        stands = holds.source_side.stands;
        kept_viewed = kept_gone n w.source w.moved holds.source_side.stands;
        kept_stored = holds.source_side.kept_stored;
        behind_viewed = behind_viewed n w.source w.moved (safe_most n w.source_stored w.moved_stored w.source w.moved holds.source_side.behind_stored);
        behind_stored = holds.source_side.behind_stored;
        ordinals = holds.source_side.behind_stored.ordinal;
        is = holds.source_side.is;
        viewed_is = topic_gone route.name w.source holds.source_side.is;
        stored_is = holds.source_side.stored_is;
      })

  pub store_source_holds : (w : World) → Is w → Is (record w { source_stored = w.source_viewed; moved_stored = w.moved_viewed })
  store_source_holds w holds =
      with_source_kept route target w w.source_viewed w.source_viewed w.moved_viewed w.moved_viewed holds (record {
        stands = holds.source_side.stands;
        kept_viewed = holds.source_side.kept_viewed;
        kept_stored = holds.source_side.kept_viewed;
        behind_viewed = holds.source_side.behind_viewed;
        behind_stored = holds.source_side.behind_viewed;
        ordinals = omega arith;
        is = holds.source_side.is;
        viewed_is = holds.source_side.viewed_is;
        stored_is = holds.source_side.viewed_is;
      })

  -- what is stored of the target begins its messages, and so its copies
  copies_more : (past s : Topic) → IsUnder past s → length (copies route.name (everything past)) ≤ length (copies route.name (everything s))
  copies_more past s under = front_length (copies route.name (everything past)) (copies route.name (everything s)) (front_filtered _ (everything past) (everything s) under.log)

  had_more : (w : World) → Is w → had w.target_stored.state ≤ had w.target.state
  had_more w holds =
      let low = front_length (everything w.target_stored) (everything w.target) holds.target_side.under_stored.log in
      let a = all_had route.name w.target_stored holds.target_side.stored_is in
      let b = all_had route.name w.target holds.target_side.is in
      omega (arith, low, a, b)

  under_gone : (w : World) → Is w → IsUnder (gone_on w.target) w.target
  under_gone w holds = record {
    log = front_same (everything w.target);
    durable = let a = holds.target_side.under_stored.durable in let b = had_more w holds in omega (arith, a, b);
    settled = omega arith;
    ordinal = omega arith;
  }

  pub view_target_holds : (w : World) → Is w → Is (record w { target_viewed = gone_on w.target })
  view_target_holds w holds =
      with_target_kept route target w (gone_on w.target) w.target_stored holds
      (record {
        is = holds.target_side.is;
        viewed_is = topic_gone route.name w.target holds.target_side.is;
        stored_is = holds.target_side.stored_is;
        under_viewed = under_gone w holds;
        under_stored = holds.target_side.under_stored;
        lengths = had_more w holds;
        ordinals = holds.target_side.under_stored.ordinal;
      })
      (let a = holds.in_stored in let b = copies_more w.target_stored w.target holds.target_side.under_stored in omega arith) holds.in_stored
      (λ before a b. (a, copy_kept route target before (everything w.target_stored) (everything w.target) holds.target_side.under_stored.log a))

  pub store_target_holds : (w : World) → Is w → Is (record w { target_stored = w.target_viewed })
  store_target_holds w holds =
      with_target_kept route target w w.target_viewed w.target_viewed holds
      (record {
        is = holds.target_side.is;
        viewed_is = holds.target_side.viewed_is;
        stored_is = holds.target_side.viewed_is;
        under_viewed = holds.target_side.under_viewed;
        under_stored = holds.target_side.under_viewed;
        lengths = omega arith;
        ordinals = omega arith;
      })
      holds.in_viewed holds.in_viewed (λ before a b. (b, b))

  -- ---- a topic goes on from what is stored of it then: from a snapshot, or from what is left of it once it is deleted

  -- it goes on with the deaths and the messages that it had
  record SourceGoesOn (w : World) (t : Topic) : Type 0 where
    kept : WasKept n t w.moved
    is : IsTopic route.name t
    goes : SourceGoes n w.source w.moved t w.moved

  source_goes_on : (w : World) (t : Topic) → SourceGoesOn w t → Is w → Is (record w { source = t; source_viewed = t; source_stored = t; moved_viewed = w.moved; moved_stored = w.moved })
  source_goes_on w t on holds = record {
    named = holds.named;
    source_side = all_source_stored route t w.moved on.kept on.is;
    target_side = holds.target_side;
    copied = copied_goes route target w.source w.moved t w.moved (copy_tags (copies route.name (everything w.target))) on.goes (safe_known n w.source w.moved holds.source_side.stands) holds.copied;
    in_viewed = holds.in_viewed;
    in_stored = holds.in_stored;
    hands = λ number. hand_source route target w.source w.moved t w.moved w.target w.target_stored w.target_viewed (w.hands number) on.goes (holds.hands number);
    alone = holds.alone;
  }

  pub reopen_source_holds : (w : World) → Is w
      → Is (record w { source = gone_on w.source; source_viewed = gone_on w.source; source_stored = gone_on w.source; moved_viewed = w.moved; moved_stored = w.moved })
  reopen_source_holds w holds =
      source_goes_on w (gone_on w.source)
      (record {
        kept = kept_gone n w.source w.moved holds.source_side.stands;
        is = topic_gone route.name w.source holds.source_side.is;
        goes = record { safe = safe_gone n w.source w.moved; done = front_same w.moved; log = front_same (everything w.source) };
      }) holds

  pub delete_source_holds : (w : World) → IsDeletable w.source.state → Is w
      → Is (record w { source = begun_again w.source; source_viewed = begun_again w.source; source_stored = begun_again w.source; moved_viewed = w.moved; moved_stored = w.moved })
  delete_source_holds w may holds =
      source_goes_on w (begun_again w.source)
      (record {
        kept = kept_again n w.source w.moved may.letters holds.source_side.stands;
        is = topic_again route.name holds.named w.source may holds.source_side.is;
        goes = record { safe = safe_again n w.source w.moved may.letters; done = front_same w.moved; log = front_pushed (everything w.source) [] };
      }) holds

  -- nobody is connected, so no courier is
  nobody : (before after : List Producer) → before ≡ [] → StaysConnected route.name before after
  nobody before after none number p found named = let e = sym (ap (find (is_producer number)) none) ∙ found in cc

  -- it goes on with the messages that it had, of which none is durable that is not there
  record TargetGoesOn (w : World) (u : Topic) : Type 0 where
    deserted : IsDeserted w.target.state
    is : IsTopic route.name u
    same : everything u ≡ everything w.target
    durable : u.state.gone + u.state.durable ≤ had u.state

  target_goes_on : (w : World) (u : Topic) → TargetGoesOn w u → Is w → Is (record w { target = u; target_viewed = u; target_stored = u })
  target_goes_on w u on holds =
      let more = copies_more w.target_stored w.target holds.target_side.under_stored in
      let had = holds.in_stored in
      let was : length (wanted target w.moved) ≤ length (copies route.name (everything w.target)) = omega arith in
      let now : length (wanted target w.moved) ≤ length (copies route.name (everything u)) = subst (λ (es : List Entry). length (wanted target w.moved) ≤ length (copies route.name es)) (sym on.same) was in
      let begins : IsPrefix (everything w.target_stored) (everything u) = subst (IsPrefix (everything w.target_stored)) (sym on.same) holds.target_side.under_stored.log in
      record {
        named = holds.named;
        source_side = holds.source_side;
        target_side = all_target_stored route u on.durable on.is;
        copied = subst (λ (es : List Entry). IsPrefix (copy_tags (copies route.name es)) (letter_tags (everything w.source) (wanted target (safe_deaths n w.source.state w.moved)))) (sym on.same) holds.copied;
        in_viewed = now;
        in_stored = now;
        hands = λ number.
            hand_stored route target w.source w.moved u w.target_stored w.target_viewed u u (w.hands number)
            (λ before a b. let copy = copy_kept route target before (everything w.target_stored) (everything u) begins a in (copy, copy))
            (hand_target route target w.source w.moved w.target u w.target_stored w.target_viewed (w.hands number) (subst (IsPrefix (everything w.target)) (sym on.same) (front_same (everything w.target)))
            (λ _. nobody w.target.state.producers u.state.producers on.deserted.0) (holds.hands number));
        alone = holds.alone;
      }

  pub reopen_target_holds : (w : World) → IsDeserted w.target.state → Is w → Is (record w { target = gone_on w.target; target_viewed = gone_on w.target; target_stored = gone_on w.target })
  reopen_target_holds w deserted holds =
      target_goes_on w (gone_on w.target) (record { deserted = deserted; is = topic_gone route.name w.target holds.target_side.is; same = refl; durable = omega arith }) holds

  pub delete_target_holds : (w : World) → IsDeletable w.target.state → Is w → Is (record w { target = begun_again w.target; target_viewed = begun_again w.target; target_stored = begun_again w.target })
  delete_target_holds w may holds =
      target_goes_on w (begun_again w.target)
      (record { deserted = may.deserted; is = topic_again route.name holds.named w.target may holds.target_side.is; same = append-nil (everything w.target); durable = omega arith }) holds

  -- ---- everything that is not stored is gone

  copied_stored : (w : World) → Is w → IsPrefix (copy_tags (copies route.name (everything w.target_stored))) (letter_tags (everything w.source_stored) (wanted target (safe_deaths n w.source_stored.state w.moved_stored)))
  copied_stored w holds =
      let past = w.source_stored in
      let g = wanted target (safe_deaths n w.source.state w.moved) in
      let more = safe_stored n past w.moved_stored w.source w.moved holds.source_side.kept_stored holds.source_side.behind_stored in
      let known : AreKnown (everything past) (safe_deaths n w.source.state w.moved) =
      all_front _ (safe_deaths n w.source.state w.moved) more.0 (subst (AreKnown (everything past)) (sym more.1) (safe_known n past w.moved_stored holds.source_side.kept_stored.stands)) in
      let same : letter_tags (everything w.source) g ≡ letter_tags (everything past) g = tags_kept (everything past) (everything w.source) g holds.source_side.behind_stored.log (all_filtered _ (is_for target) (safe_deaths n w.source.state w.moved) known) in
      let begins : IsPrefix (copy_tags (copies route.name (everything w.target_stored))) (copy_tags (copies route.name (everything w.target))) =
      front_mapped _ (copies route.name (everything w.target_stored)) (copies route.name (everything w.target)) (front_filtered _ (everything w.target_stored) (everything w.target) holds.target_side.under_stored.log) in
      front_trans _ (letter_tags (everything past) g) _
      (front_trans _ (copy_tags (copies route.name (everything w.target))) (letter_tags (everything past) g) begins (subst (λ (ts : List Tag). IsPrefix (copy_tags (copies route.name (everything w.target))) ts) same holds.copied))
      (front_mapped _ g (wanted target (safe_deaths n past.state w.moved_stored)) (front_filtered (is_for target) (safe_deaths n w.source.state w.moved) (safe_deaths n past.state w.moved_stored) more))

  pub crash_holds : (w : World) → Is w
      → Is (record w {
        source = w.source_stored;
        source_viewed = w.source_stored;
        target = w.target_stored;
        target_viewed = w.target_stored;
        moved = w.moved_stored;
        moved_viewed = w.moved_stored;
        hands = idle;
      })
  crash_holds w holds =
      let fewer = front_length (wanted target w.moved_stored) (wanted target w.moved) (front_filtered (is_for target) w.moved_stored w.moved holds.source_side.behind_stored.done) in
      let had = holds.in_stored in
      let still : length (wanted target w.moved_stored) ≤ length (copies route.name (everything w.target_stored)) = omega arith in
      record {
        named = holds.named;
        source_side = all_source_stored route w.source_stored w.moved_stored holds.source_side.kept_stored holds.source_side.stored_is;
        target_side = all_target_stored route w.target_stored holds.target_side.under_stored.settled holds.target_side.stored_is;
        copied = copied_stored w holds;
        in_viewed = still;
        in_stored = still;
        hands = λ number. tt;
        alone = λ a b inside other. absurd inside;
      }

  -- ---- at first

  stands_fresh : (name : TopicName) (ledger_size : ℕ) → Stands n (new_topic name ledger_size) []
  stands_fresh name ledger_size = record { rise = tt; below = tt; known = tt }

  kept_fresh : (name : TopicName) (ledger_size : ℕ) → WasKept n (new_topic name ledger_size) []
  kept_fresh name ledger_size = record { stands = stands_fresh name ledger_size; all_safe = refl }

  pub opened_holds : starts_with nat_eq route.name (codes "dlq/") ≡ true → (source other : TopicName) (ledger_size : ℕ) → Is (opened source other ledger_size)
  opened_holds named source other ledger_size =
      let a = new_topic source ledger_size in
      let b = new_topic other ledger_size in
      record {
        named = named;
        source_side = all_source_stored route a [] (kept_fresh source ledger_size) (topic_new route.name source ledger_size);
        target_side = all_target_stored route b (omega arith) (topic_new route.name other ledger_size);
        copied = ([], refl);
        in_viewed = omega arith;
        in_stored = omega arith;
        hands = λ number. tt;
        alone = λ x y inside other. absurd inside;
      }
