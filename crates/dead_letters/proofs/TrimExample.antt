-- A copy that goes: sixty-four messages come after it and are stored, a subscription begins behind them, and the topic is trimmed;
-- then a crash takes back that the death was done with, and it is moved again.
use Rattle.std.proofs.Common.{◌≡◌, ℕ, ◌+◌, ◌<◌, List, [], ◌∷◌, ◌++◌, map, suc, zero, Some, None, Bool, true, false, pos, refl, ap, ap₂, ◌∙◌, sym, subst, arith, ◌-◌, ◌/◌, ◌*◌}
use Rattle.std.specs.Prelude.{codes, negsuc, not, ◌&&◌, nat_le, min, is_some, if◌then◌else◌}
use Rattle.std.specs.FinSet as set
use Rattle.std.specs.FinMap as map_of
use Rattle.position_core.specs.declared.position.Position.{Position}
use Rattle.position_core.specs.declared.body.Content.{Content}
use Rattle.position_core.specs.declared.message.Entry.{Entry}
use Rattle.position_core.specs.declared.held.Held.{Held}
use Rattle.position_core.specs.declared.flow.Flow.TheVariants.{Window}
use Rattle.position_core.specs.declared.kind.Kind.TheVariants.{Shared}
use Rattle.position_core.specs.declared.fault.Fault.TheVariants.{TopicFull}
use Rattle.position_core.specs.Position.{position_cmp, same_position, positions_total}
use Rattle.delivery_machine.specs.State.{State, Producer, Member, DeadLetter}
use Rattle.delivery_machine.specs.Words.{next_position}
use Rattle.delivery_machine.specs.Refusals.{is_duplicate, is_full}
use Rattle.delivery_machine.specs.Producing.{had, with_producer, with_message}
use Rattle.delivery_machine.specs.Joining.{with_member}
use Rattle.delivery_machine.specs.Acknowledging.{is_one_of}
use Rattle.delivery_machine.specs.Dying.{moved}
use Rattle.delivery_machine.specs.Trimming.{may_go, free_at_front, going, trimmed}
use Rattle.delivery_machine.specs.Snapshot.{snapshot_of, restarted}
use Rattle.delivery_machine.specs.Run.{Answers}
use Rattle.delivery_machine.specs.declared.event.Event.TheVariants.{AddProducer, Publish, Stored, Subscribe, Trim}
use Rattle.delivery_machine.specs.declared.event.Initial.TheVariants.{Latest}
use Rattle.delivery_machine.specs.declared.reply.Reply.TheVariants.{ProducerAdded, Published, Duplicate, Durable, Progress, Done, Dead, Subscribed, Trimmed}
use Rattle.delivery_machine.proofs.Deciding.{and_first, and_second, turned}
use Rattle.delivery_machine.proofs.Tended.{position_is}
use Rattle.machine_laws.proofs.SixtyFour.{passes_all, all_from}
use Rattle.dead_letters.specs.declared.hand.Hand.{Hand}
use Rattle.dead_letters.specs.declared.hand.Hand.TheVariants.{Empty, Holds, Joined, Copied, Waits, Moved}
use Rattle.dead_letters.specs.Worlds.{Topic, World, Act, at_target, view_target, store_target, courier, in_state, gone_on, AllHappen, opened, idle, with_hand}
use Rattle.dead_letters.specs.Laws.{MayGo}
use Rattle.dead_letters.proofs.DyingExample.{a, b, name, way, letter, taken, k3, k8, t4, copy}
use Rattle.dead_letters.proofs.DyingExample.{message as message_of_death}
use Rattle.dead_letters.proofs.Example.{acts_of, all_happen, last_world, goes_on}

abbrev place : ℕ → Position
place k = record { ledger = suc k; entry = 0 }

-- no message went
abbrev whole : State → Topic
whole s = record { state = s; past = [] }

module _ (body : Content) where
  abbrev message : ℕ → Entry
  message k = record { position = place k; producer = codes "p"; sequence = pos (k + 1); time = 0; body = body }

  abbrev messages : ℕ → List Entry
  messages zero = copy body 0 ∷ []
  messages (suc k) = messages k ++ message k ∷ []

  abbrev producer : Producer
  producer = record { number = 2; name = codes "p"; base = pos 0 }

  -- so many after the copy
  abbrev so_many : ℕ → State
  so_many k = record (with_producer (t4 body 0 []) producer) { log = messages k; ledger = k }

  -- the other topic is so, and nobody moves a letter
  abbrev at : State → State → World
  at t kept = record (last_world body) { target = whole t; target_viewed = whole kept; target_stored = whole kept }

  -- the next ones may be published in turn
  abbrev may_come : ℕ → ℕ → Bool
  may_come k zero = true
  may_come k (suc n) =
      (not (is_duplicate (so_many k) producer (pos (k + 1))) && not (is_full (so_many k))) && (same_position (next_position (so_many k)) (place k) && may_come (suc k) n)

  abbrev published : ℕ → ℕ → List Act → List Act
  published k zero acts = acts
  published k (suc n) acts = at_target (Publish 2 (pos (k + 1)) body 0) (Published (place k) (had (so_many k) + 1)) ∷ published (suc k) n acts

  abbrev end : ℕ → ℕ → ℕ
  end k zero = k
  end k (suc n) = end (suc k) n

  publishes : (k : ℕ) → is_duplicate (so_many k) producer (pos (k + 1)) ≡ false → is_full (so_many k) ≡ false → next_position (so_many k) ≡ place k
      → Answers (so_many k) (Publish 2 (pos (k + 1)) body 0) (Published (place k) (had (so_many k) + 1)) (so_many (suc k))
  publishes k new room next = (
    ap₂ (λ a b. if a then None else if b then Some TopicFull else None) new room,
    (
      sym (ap (λ a. if a then Duplicate (had (so_many k)) else Published (next_position (so_many k)) (had (so_many k) + 1)) new ∙ ap (λ (q : Position). Published q (had (so_many k) + 1)) next),
      sym (ap (λ a. if a then so_many k else with_message (so_many k) (record { position = next_position (so_many k); producer = codes "p"; sequence = pos (k + 1); time = 0; body = body })) new
          ∙ ap (λ (q : Position). with_message (so_many k) (record { position = q; producer = codes "p"; sequence = pos (k + 1); time = 0; body = body })) next),
    ),
  )

  all_published : (k n : ℕ) (acts : List Act) (v : World) → may_come k n ≡ true → AllHappen way b (at (so_many (end k n)) (k3 body 0 [])) acts v → AllHappen way b (at (so_many k) (k3 body 0 [])) (published k n acts) v
  all_published k zero acts v may rest = rest
  all_published k (suc n) acts v may rest =
      let both = and_first (not (is_duplicate (so_many k) producer (pos (k + 1))) && not (is_full (so_many k))) _ may in
      let later = and_second (not (is_duplicate (so_many k) producer (pos (k + 1))) && not (is_full (so_many k))) _ may in
      let answer = publishes k (turned _ (and_first _ _ both)) (turned _ (and_second (not (is_duplicate (so_many k) producer (pos (k + 1)))) _ both)) (position_is (next_position (so_many k)) (place k) (and_first _ (may_come (suc k) n) later)) in (
        at (so_many (suc k)) (k3 body 0 []),
        (refl, refl, (so_many (suc k), answer, refl)),
        all_published (suc k) n acts v (and_second (same_position (next_position (so_many k)) (place k)) _ later) rest,
      )

  -- ---- they are stored, and all go but the last

  abbrev full : State
  full = so_many 64

  abbrev kept : State
  kept = restarted (snapshot_of full)

  abbrev stored : State
  stored = record full { durable = 65 }

  abbrev member : Member
  member = record { number = 1; subscription = codes "s"; level = 0; flow = Window 1; ack_timeout = 0; nack_delay = 0; max_redeliver = 0; dead_topic = a; out = [] }

  abbrev joined : State
  joined = with_member stored Shared None Latest member

  free : (e : Entry) → (is_one_of (map (λ (e : Entry). e.position) (messages 64)) e.position && nat_le e.time 0) ≡ true → may_go joined 0 e ≡ true
  free e ok =
      let one = and_first (is_one_of (map (λ (e : Entry). e.position) (messages 64)) e.position) (nat_le e.time 0) ok in
      let early = and_second (is_one_of (map (λ (e : Entry). e.position) (messages 64)) e.position) (nat_le e.time 0) ok in
      ap₂ (λ a b. ((a && not b && true) && true) && nat_le e.time 0) (set.contains-from_list positions_total (map (λ (e : Entry). e.position) (messages 64)) e.position ∙ one)
      (ap is_some (map_of.get-empty {X = Held} position_cmp e.position)) ∙ early

  front : free_at_front joined 0 ≡ 65
  front = passes_all (may_go joined 0) (messages 64) (all_from (λ e. is_one_of (map (λ (e : Entry). e.position) (messages 64)) e.position && nat_le e.time 0) (may_go joined 0) free (messages 64) refl)

  sixty_four : going joined 0 0 64 ≡ 64
  sixty_four = ap (λ n. min 64 (min (n - 1) 65) / 64 * 64) front

  trims : Answers joined (Trim 0 0 64) (Trimmed 64) (trimmed 64 joined)
  trims = (refl, (subst (λ (n : ℕ). 0 < n) (sym sixty_four) (omega arith), ap (λ (n : ℕ). 0 + n) (sym sixty_four), ap (λ n. trimmed n joined) (sym sixty_four)))

  abbrev short : Topic
  short = in_state (whole joined) (trimmed 64 joined)

  abbrev without : World
  without = record (at joined kept) { target = short; target_viewed = gone_on short; target_stored = gone_on short }

  abbrev last_acts : List Act
  last_acts =
      view_target ∷ store_target ∷ at_target Stored (Durable 65)
      ∷ at_target (Subscribe (codes "s") Shared 0 (Window 1) 0 0 0 a Latest None) (Subscribed 1) ∷ at_target (Trim 0 0 64) (Trimmed 64)
      ∷ view_target ∷ store_target ∷ []

  goes_last : AllHappen way b (at full (k3 body 0 [])) last_acts without
  goes_last = (
    record (at full (k3 body 0 [])) { target_viewed = whole kept },
    refl,
    (
      at full kept,
      refl,
      (
        at stored kept,
        (refl, refl, (stored, (refl, (refl, refl)), refl)),
        (
          at joined kept,
          (refl, refl, (joined, (refl, (refl, refl, tt)), refl)),
          (
            record (at joined kept) { target = short },
            (refl, refl, (trimmed 64 joined, trims, refl)),
            (record (at joined kept) { target = short; target_viewed = gone_on short }, refl, (without, refl, refl)),
          ),
        ),
      ),
    ),
  )

  abbrev later_acts : List Act
  later_acts = at_target (AddProducer (Some (codes "p")) (pos 0)) (ProducerAdded 2 None (pos 0)) ∷ published 0 64 last_acts

  abbrev all_acts : List Act
  all_acts = acts_of body ++ later_acts

  goes_later : AllHappen way b (last_world body) later_acts without
  goes_later = (
    at (so_many 0) (k3 body 0 []),
    (refl, refl, (so_many 0, (refl, (codes "p", None, (refl, refl), (refl, refl))), refl)),
    all_published 0 64 last_acts without refl goes_last,
  )

  goes_all : AllHappen way b (opened a b 1) all_acts without
  goes_all = goes_on way b (opened a b 1) (acts_of body) (last_world body) later_acts without (all_happen body) goes_later

  -- ---- it is moved again

  -- after the crash the other topic is so
  abbrev again : State → List DeadLetter → State → (ℕ → Hand) → World
  again s done t hands = record {
    source = whole s;
    source_viewed = whole (k8 body 0);
    source_stored = whole (k8 body 0);
    target = record { state = t; past = short.past };
    target_viewed = gone_on short;
    target_stored = gone_on short;
    moved = done;
    moved_viewed = [];
    moved_stored = [];
    hands = hands;
  }

  abbrev t5 : State
  t5 = (gone_on short).state

  abbrev t6 : State
  t6 = with_producer t5 (record { number = 1; name = way.name; base = negsuc 0 })

  abbrev t7 : State
  t7 = record t6 { producers = [] }

  abbrev s11 : State
  s11 = moved (k8 body 0) name (letter body 0)

  abbrev g1 : ℕ → Hand
  g1 = with_hand 0 (Holds (taken body 0)) idle

  abbrev g2 : ℕ → Hand
  g2 = with_hand 0 (Joined (taken body 0) 1) g1

  abbrev g3 : ℕ → Hand
  g3 = with_hand 0 (Copied (taken body 0) 1 65) g2

  abbrev g4 : ℕ → Hand
  g4 = with_hand 0 (Waits (taken body 0) 65) g3

  abbrev g5 : ℕ → Hand
  g5 = with_hand 0 (Moved (taken body 0)) g4

  abbrev g6 : ℕ → Hand
  g6 = with_hand 0 Empty g5

  abbrev acts_again : List Act
  acts_again =
      courier 0 0 (Dead (message_of_death body 0) b 0) ∷ courier 0 0 (ProducerAdded 1 None (pos 0)) ∷ courier 0 0 (Duplicate 65) ∷ courier 0 0 Done
      ∷ courier 0 0 (Progress 65 65) ∷ courier 0 0 Done ∷ []

  goes_again : AllHappen way b (again (k8 body 0) [] t5 idle) acts_again (again s11 (letter body 0 ∷ []) t7 g6)
  goes_again = (
    again (k8 body 0) [] t5 g1,
    (k8 body 0, (refl, (refl, refl)), refl),
    (
      again (k8 body 0) [] t6 g2,
      (t6, (refl, (way.name, None, (refl, refl), (refl, refl))), refl),
      (
        again (k8 body 0) [] t6 g3,
        (t6, (refl, (refl, refl)), refl),
        (
          again (k8 body 0) [] t7 g4,
          (t7, (refl, (refl, refl)), refl),
          (
            again (k8 body 0) [] t7 g5,
            (t7, (refl, (refl, refl)), refl),
            (again s11 (letter body 0 ∷ []) t7 g6, (s11, (refl, (refl, refl)), refl), refl),
          ),
        ),
      ),
    ),
  )

pub may_go_then : MayGo
may_go_then body = (
  way,
  refl,
  b,
  all_acts body,
  without body,
  goes_all body,
  again body (k8 body 0) [] (t5 body) idle,
  refl,
  acts_again body,
  again body (s11 body) (letter body 0 ∷ []) (t7 body) (g6 body),
  goes_again body,
  letter body 0,
  copy body 0,
  refl,
  refl,
  refl,
  refl,
  refl,
  refl,
)
