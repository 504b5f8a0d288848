-- Worlds in which a message dies and is moved: its death is stored, and a courier copies it, and does away with the letter once the
-- copy is stored. So it may be at two topics that had so many messages before, all of which went.
use Rattle.std.proofs.Common.{◌≡◌, ℕ, ◌<◌, List, [], ◌∷◌, ◌++◌, Some, None, refl, ap, ap₂, sym, pos, Bool, true, arith, ◌∙◌, subst}
use Rattle.std.specs.Prelude.{codes, ◌+◌, ◌&&◌, ◌^◌, negsuc, nat_le, if◌then◌else◌}
use Rattle.std.proofs.lemmas.Bool.Decides.{nat_tests}
use Rattle.std.proofs.lemmas.List.{append-nil}
use Rattle.position_core.specs.declared.topic_name.TopicName.{TopicName}
use Rattle.position_core.specs.declared.body.Content.{Content}
use Rattle.position_core.specs.declared.message.Entry.{Entry}
use Rattle.position_core.specs.declared.flow.Flow.TheVariants.{Window}
use Rattle.position_core.specs.declared.kind.Kind.TheVariants.{Shared}
use Rattle.delivery_machine.specs.State.{State, Author, DeadLetter}
use Rattle.delivery_machine.specs.Words.{known, last_sequence}
use Rattle.delivery_machine.specs.Producing.{had}
use Rattle.delivery_machine.specs.declared.event.Initial.TheVariants.{Earliest}
use Rattle.delivery_machine.specs.declared.event.Event.TheVariants.{AddProducer, Publish, Stored, Subscribe, Dispatch, Tick}
use Rattle.delivery_machine.specs.declared.reply.Reply.TheVariants.{ProducerAdded, Published, Durable, Progress, Subscribed, Done, Sent, Released, Died, Dead}
use Rattle.dead_letters.specs.declared.route.Route.{Route}
use Rattle.dead_letters.specs.declared.hand.Hand.{Hand}
use Rattle.dead_letters.specs.declared.hand.Hand.TheVariants.{Empty, Holds, Joined, Copied, Waits, Moved}
use Rattle.dead_letters.specs.Moving.{move_of, after}
use Rattle.dead_letters.specs.Worlds.{World, Act, at_source, at_target, view_source, view_target, store_source, store_target, courier, Happens, AnswersAt, AllHappen, opened, in_state, kept_for, with_hand}
use Rattle.dead_letters.specs.Laws.{MayBeMoved}
use Rattle.dead_letters.proofs.Topics.{none_went}
use Rattle.dead_letters.proofs.DyingExample.{a, b, name, way, first, message, letter, taken, s0, s1, s2, s3, s4, s5, s6, s7, s8, s9, s10, k2, k8, t0, t1, t2, t3, t4, k3, connects, publishes, message_stored, subscribes, death_stored, sent_once, released, sent_again, dies, shows, finishes, is_new, joins, copies}

-- ---- one act, where no message goes

-- the topic that letters die in is so
abbrev source_in : World → State → World
source_in w s = record w { source = record { state = s; past = w.source.past } }

-- so is the one that they go to
abbrev target_in : World → State → World
target_in w t = record w { target = record { state = t; past = w.target.past } }

source_same : (w : World) (s : State) (moved done : List DeadLetter) (hands : ℕ → Hand) → s.gone ≡ w.source.state.gone → moved ≡ w.moved ++ done
    → record (source_in w s) { moved = moved; hands = hands } ≡ record w { source = in_state w.source s; moved = w.moved ++ done; hands = hands }
source_same w s moved done hands gone is =
    ap₂ (λ (past : List Entry) (ds : List DeadLetter). record w { source = record { state = s; past = past }; moved = ds; hands = hands }) (sym (none_went w.source s gone)) is

target_same : (w : World) (t : State) (hands : ℕ → Hand) → t.gone ≡ w.target.state.gone → record (target_in w t) { hands = hands } ≡ record w { target = in_state w.target t; hands = hands }
target_same w t hands gone = ap (λ (past : List Entry). record w { target = record { state = t; past = past }; hands = hands }) (sym (none_went w.target t gone))

-- no letter is done with
none_more : (w : World) → w.moved ≡ w.moved ++ []
none_more w = sym (append-nil w.moved)

-- an answer by which the topic is so, and that does away with no letter
so_answered : (w : World) (s : State) → s.gone ≡ w.source.state.gone → source_in w s ≡ record w { source = in_state w.source s; moved = w.moved ++ [] }
so_answered w s gone = source_same w s w.moved [] w.hands gone (none_more w)

all_stored : (m n : ℕ) → (nat_le m m && nat_le n n) ≡ true
all_stored m n = grind (arith, nat_tests)

-- ---- a message dies and is moved

module _ (body : Content) (k : ℕ) where
  -- until the death is stored
  abbrev pub deaths : List Act
  deaths =
      at_source (AddProducer (Some (codes "p")) (pos 0)) (ProducerAdded 1 None (pos 0)) ∷ at_source (Publish 1 (pos 1) body 0) (Published (first body k) (had (s1 body k) + 1))
      ∷ view_source ∷ store_source ∷ at_source Stored (Durable (had (s2 body k)))
      ∷ at_source (Subscribe name Shared 0 (Window 1) 1 0 1 b Earliest None) (Subscribed 1)
      ∷ at_source (Dispatch name 0) (Sent 1 (first body k) 0) ∷ at_source (Tick name 1) (Released (first body k))
      ∷ at_source (Dispatch name 1) (Sent 1 (first body k) 1) ∷ at_source (Tick name 2) (Died (first body k) k)
      ∷ view_source ∷ store_source ∷ at_source Stored (Durable (had (s8 body k))) ∷ []

  module _ (authors : List Author) where
    -- the courier's way with the letter
    abbrev pub moves : List Act
    moves =
        courier 0 0 (Dead (message body k) b k) ∷ courier 0 0 (ProducerAdded 1 None (last_sequence (known (t0 body k authors)) way.name (negsuc 0)))
        ∷ courier 0 0 (Published (first body k) (had (t1 body k authors) + 1)) ∷ courier 0 0 Done
        ∷ view_target ∷ store_target ∷ at_target Stored (Durable (had (t3 body k authors)))
        ∷ courier 0 0 (Progress (k + 1) (had (t4 body k authors))) ∷ courier 0 0 Done ∷ []

    module _ (w : World) where
      -- the two topics had so many messages, and nothing is in them
      abbrev pub begins : World
      begins = source_in (target_in w (t0 body k authors)) (s0 body k)

      -- where the source is so, and was viewed and stored so
      abbrev so : State → State → State → World
      so s viewed kept = record (source_in begins s) {
        source_viewed = record { state = viewed; past = w.source.past };
        source_stored = record { state = kept; past = w.source.past };
        moved_viewed = w.moved;
        moved_stored = w.moved;
      }

      abbrev pub dead : World
      dead = so (s9 body k) (k8 body k) (k8 body k)

      abbrev unstored : State → World
      unstored s = source_in begins s

      abbrev viewed : World
      viewed = record (unstored (s2 body k)) { source_viewed = record { state = k2 body k; past = w.source.past }; moved_viewed = w.moved }

      goes_dying : k < 2 ^ 62 → AllHappen way b begins deaths dead
      goes_dying few = (
        unstored (s1 body k),
        (refl, refl, (s1 body k, connects body k, so_answered begins (s1 body k) refl)),
        (
          unstored (s2 body k),
          (refl, refl, (s2 body k, publishes body k few, so_answered (unstored (s1 body k)) (s2 body k) refl)),
          (
            viewed,
            refl,
            (
              so (s2 body k) (k2 body k) (k2 body k),
              refl,
              (
                so (s3 body k) (k2 body k) (k2 body k),
                (all_stored (had (s2 body k)) k, refl, (s3 body k, message_stored body k, so_answered (so (s2 body k) (k2 body k) (k2 body k)) (s3 body k) refl)),
                (
                  so (s4 body k) (k2 body k) (k2 body k),
                  (refl, refl, (s4 body k, subscribes body k, so_answered (so (s3 body k) (k2 body k) (k2 body k)) (s4 body k) refl)),
                  (
                    so (s5 body k) (k2 body k) (k2 body k),
                    (refl, refl, (s5 body k, sent_once body k, so_answered (so (s4 body k) (k2 body k) (k2 body k)) (s5 body k) refl)),
                    (
                      so (s6 body k) (k2 body k) (k2 body k),
                      (refl, refl, (s6 body k, released body k, so_answered (so (s5 body k) (k2 body k) (k2 body k)) (s6 body k) refl)),
                      (
                        so (s7 body k) (k2 body k) (k2 body k),
                        (refl, refl, (s7 body k, sent_again body k, so_answered (so (s6 body k) (k2 body k) (k2 body k)) (s7 body k) refl)),
                        (
                          so (s8 body k) (k2 body k) (k2 body k),
                          (refl, refl, (s8 body k, dies body k few, so_answered (so (s7 body k) (k2 body k) (k2 body k)) (s8 body k) refl)),
                          (
                            so (s8 body k) (k8 body k) (k2 body k),
                            refl,
                            (
                              so (s8 body k) (k8 body k) (k8 body k),
                              refl,
                              (dead, (all_stored (had (s8 body k)) (k + 1), refl, (s9 body k, death_stored body k, so_answered (so (s8 body k) (k8 body k) (k8 body k)) (s9 body k) refl)), refl),
                            ),
                          ),
                        ),
                      ),
                    ),
                  ),
                ),
              ),
            ),
          ),
        ),
      )

      abbrev count : ℕ
      count = had (t1 body k authors) + 1

      abbrev h1 : ℕ → Hand
      h1 = with_hand 0 (Holds (taken body k)) w.hands

      abbrev h2 : ℕ → Hand
      h2 = with_hand 0 (Joined (taken body k) 1) h1

      abbrev h3 : ℕ → Hand
      h3 = with_hand 0 (Copied (taken body k) 1 count) h2

      abbrev h4 : ℕ → Hand
      h4 = with_hand 0 (Waits (taken body k) count) h3

      abbrev h5 : ℕ → Hand
      h5 = with_hand 0 (Moved (taken body k)) h4

      abbrev pub h6 : ℕ → Hand
      h6 = with_hand 0 Empty h5

      -- where the target is so, and the hands hold that
      abbrev to : State → (ℕ → Hand) → World
      to t hands = record (target_in dead t) { hands = hands }

      -- where it was viewed and stored so as well
      abbrev stored_to : State → State → (ℕ → Hand) → World
      stored_to t kept hands = record (to t hands) { target_viewed = record { state = kept; past = w.target.past }; target_stored = record { state = kept; past = w.target.past } }

      abbrev pub ends : World
      ends = record (source_in (stored_to (t4 body k authors) (k3 body k authors) h6) (s10 body k)) { moved = w.moved ++ letter body k ∷ [] }

      -- a courier with nothing in its hand is shown the letter
      looks : w.hands 0 ≡ Empty → Happens way b dead (courier 0 0 (Dead (message body k) b k)) (to (t0 body k authors) h1)
      looks free =
          subst (λ (hand : Hand). AnswersAt way (move_of way hand 0).side dead (move_of way hand 0).event (Dead (message body k) b k) (with_hand 0 (kept_for b (after hand (Dead (message body k) b k))) w.hands) (to (t0 body k authors) h1))
          (sym free) (s9 body k, shows body k, source_same dead (s9 body k) w.moved [] h1 refl (none_more w))

      -- all is stored
      there : nat_le count (k + 1) ≡ true
      there = grind (arith, nat_tests)

      goes_moving : k < 2 ^ 62 → w.hands 0 ≡ Empty → is_new body k authors ≡ true → AllHappen way b dead moves ends
      goes_moving few free new = (
        to (t0 body k authors) h1,
        looks free,
        (
          to (t1 body k authors) h2,
          (t1 body k authors, joins body k authors, target_same (to (t0 body k authors) h1) (t1 body k authors) h2 refl),
          (
            to (t2 body k authors) h3,
            (t2 body k authors, copies body k authors few new, target_same (to (t1 body k authors) h2) (t2 body k authors) h3 refl),
            (
              to (t3 body k authors) h4,
              (t3 body k authors, (refl, (refl, refl)), target_same (to (t2 body k authors) h3) (t3 body k authors) h4 refl),
              (
                record (to (t3 body k authors) h4) { target_viewed = record { state = k3 body k authors; past = w.target.past } },
                refl,
                (
                  stored_to (t3 body k authors) (k3 body k authors) h4,
                  refl,
                  (
                    stored_to (t4 body k authors) (k3 body k authors) h4,
                    (all_stored (had (t3 body k authors)) 0, refl, (t4 body k authors, (refl, (refl, refl)), target_same (stored_to (t3 body k authors) (k3 body k authors) h4) (t4 body k authors) h4 refl)),
                    (
                      stored_to (t4 body k authors) (k3 body k authors) h5,
                      (
                        t4 body k authors,
                        (refl, (refl, refl)),
                        target_same (stored_to (t4 body k authors) (k3 body k authors) h4) (t4 body k authors) h5 refl
                            ∙ ap (λ (c : Bool). record (stored_to (t4 body k authors) (k3 body k authors) h4) {
                              target = in_state (stored_to (t4 body k authors) (k3 body k authors) h4).target (t4 body k authors);
                              hands = with_hand 0 (kept_for b (if c then Moved (taken body k) else Waits (taken body k) count)) h4;
                            }) (sym there),
                      ),
                      (
                        ends,
                        (s10 body k, finishes body k, source_same (stored_to (t4 body k authors) (k3 body k authors) h5) (s10 body k) (w.moved ++ letter body k ∷ []) (letter body k ∷ []) h6 refl refl),
                        refl,
                      ),
                    ),
                  ),
                ),
              ),
            ),
          ),
        ),
      )

pub goes_on : (route : Route) (target : TopicName) (w : World) (acts : List Act) (v : World) (more : List Act) (u : World) → AllHappen route target w acts v → AllHappen route target v more u → AllHappen route target w (acts ++ more) u
goes_on route target w [] v more u is rest = subst (λ (x : World). AllHappen route target x more u) is rest
goes_on route target w (act ∷ acts) v more u goes rest = (goes.0, goes.1, goes_on route target goes.0 acts v more u goes.2 rest)

pub goes_round : (body : Content) (k : ℕ) (authors : List Author) (w : World) → k < 2 ^ 62 → w.hands 0 ≡ Empty → is_new body k authors ≡ true
    → AllHappen way b (begins body k authors w) (deaths body k ++ moves body k authors) (ends body k authors w)
goes_round body k authors w few free new =
    goes_on way b (begins body k authors w) (deaths body k) (dead body k authors w) (moves body k authors) (ends body k authors w) (goes_dying body k authors w few) (goes_moving body k authors w few free new)

-- ---- at two topics with nothing in them

abbrev pub acts_of : Content → List Act
acts_of body = deaths body 0 ++ moves body 0 []

abbrev pub last_world : Content → World
last_world body = ends body 0 [] (opened a b 1)

pub all_happen : (body : Content) → AllHappen way b (opened a b 1) (acts_of body) (last_world body)
all_happen body = goes_round body 0 [] (opened a b 1) (omega arith) refl refl

pub may_be_moved : MayBeMoved
may_be_moved body = (way, refl, b, acts_of body, last_world body, all_happen body, letter body 0, message body 0, refl, refl, refl)
