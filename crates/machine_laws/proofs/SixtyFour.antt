-- A run in which sixty-four messages go: sixty-five are published and stored, a subscription begins behind them, and the topic is trimmed.
use Rattle.std.proofs.Common.{◌≡◌, ℕ, ◌+◌, ◌<◌, List, [], ◌∷◌, ◌++◌, map, length, suc, zero, Some, None, Bool, true, false, cond, pos, refl, ap, ap₂, ◌∙◌, sym, subst, arith, ◌-◌, ◌/◌, ◌*◌}
use Rattle.std.specs.Prelude.{codes, not, ◌&&◌, nat_le, min, is_some, if◌then◌else◌}
use Rattle.std.specs.List.{AllByRecursion, list_all, prefix_len}
use Rattle.std.specs.FinSet as set
use Rattle.std.specs.FinMap as map_of
use Rattle.position_core.specs.declared.position.Position.{Position}
use Rattle.position_core.specs.declared.topic_name.TopicName.{TopicName}
use Rattle.position_core.specs.declared.body.Content.{Content}
use Rattle.position_core.specs.declared.message.Entry.{Entry}
use Rattle.position_core.specs.declared.held.Held.{Held}
use Rattle.position_core.specs.declared.flow.Flow.TheVariants.{Window}
use Rattle.position_core.specs.declared.kind.Kind.TheVariants.{Shared}
use Rattle.position_core.specs.declared.fault.Fault.TheVariants.{TopicFull}
use Rattle.position_core.specs.Position.{position_cmp, same_position, positions_total}
use Rattle.delivery_machine.specs.State.{State, Producer, Member, fresh}
use Rattle.delivery_machine.specs.Words.{next_position}
use Rattle.delivery_machine.specs.Refusals.{is_duplicate, is_full}
use Rattle.delivery_machine.specs.Producing.{had, with_producer, with_message}
use Rattle.delivery_machine.specs.Joining.{with_member}
use Rattle.delivery_machine.specs.Acknowledging.{is_one_of}
use Rattle.delivery_machine.specs.Trimming.{may_go, free_at_front, going, trimmed}
use Rattle.delivery_machine.specs.Run.{Run, Answers}
use Rattle.delivery_machine.specs.Laws.{MayCome, AreGone}
use Rattle.delivery_machine.specs.declared.event.Event.{Event}
use Rattle.delivery_machine.specs.declared.event.Event.TheVariants.{AddProducer, Publish, Stored, Subscribe, Trim}
use Rattle.delivery_machine.specs.declared.event.Initial.TheVariants.{Latest}
use Rattle.delivery_machine.specs.declared.reply.Reply.{Reply}
use Rattle.delivery_machine.specs.declared.reply.Reply.TheVariants.{ProducerAdded, Published, Duplicate, Durable, Subscribed, Trimmed}
use Rattle.delivery_machine.proofs.Deciding.{and_first, and_second, turned}
use Rattle.delivery_machine.proofs.Tended.{position_is}

abbrev place : ℕ → Position
place k = record { ledger = k; entry = 0 }

abbrev last : ℕ → ℕ
last zero = 0
last (suc k) = k

-- all pass
pub passes_all : (p : Entry → Bool) (xs : List Entry) → AllByRecursion (λ e. p e ≡ true) xs → prefix_len p xs ≡ length xs
passes_all p [] all = refl
passes_all p (x ∷ xs) all = ap (λ b. cond b (1 + prefix_len p xs) 0) all.0 ∙ (let rest = passes_all p xs all.1 in omega (arith, rest))

pub all_from : (p q : Entry → Bool) → ((e : Entry) → p e ≡ true → q e ≡ true) → (xs : List Entry) → list_all p xs ≡ true → AllByRecursion (λ e. q e ≡ true) xs
all_from p q step [] all = tt
all_from p q step (x ∷ xs) all = (step x (and_first (p x) (list_all p xs) all), all_from p q step xs (and_second (p x) (list_all p xs) all))

module _ (name : TopicName) (body : Content) where
  abbrev message : ℕ → Entry
  message k = record { position = place k; producer = codes "p"; sequence = pos (k + 1); time = 0; body = body }

  abbrev messages : ℕ → List Entry
  messages zero = []
  messages (suc k) = messages k ++ message k ∷ []

  abbrev producer : Producer
  producer = record { number = 1; name = codes "p"; base = pos 0 }

  abbrev so_many : ℕ → State
  so_many k = record (with_producer (fresh name 1) producer) { log = messages k; ledger = last k }

  -- the next ones may be published in turn
  abbrev may_come : ℕ → ℕ → Bool
  may_come k zero = true
  may_come k (suc n) =
      (not (is_duplicate (so_many k) producer (pos (k + 1))) && not (is_full (so_many k))) && (same_position (next_position (so_many k)) (place k) && may_come (suc k) n)

  abbrev published : ℕ → ℕ → List Event → List Event
  published k zero events = events
  published k (suc n) events = Publish 1 (pos (k + 1)) body 0 ∷ published (suc k) n events

  abbrev answered : ℕ → ℕ → List Reply → List Reply
  answered k zero replies = replies
  answered k (suc n) replies = Published (place k) (had (so_many k) + 1) ∷ answered (suc k) n replies

  abbrev end : ℕ → ℕ → ℕ
  end k zero = k
  end k (suc n) = end (suc k) n

  publishes : (k : ℕ) → is_duplicate (so_many k) producer (pos (k + 1)) ≡ false → is_full (so_many k) ≡ false → next_position (so_many k) ≡ place k
      → Answers (so_many k) (Publish 1 (pos (k + 1)) body 0) (Published (place k) (had (so_many k) + 1)) (so_many (suc k))
  publishes k new room next = (
    ap₂ (λ a b. if a then None else if b then Some TopicFull else None) new room,
    (
      sym (ap (λ a. if a then Duplicate (had (so_many k)) else Published (next_position (so_many k)) (had (so_many k) + 1)) new ∙ ap (λ (q : Position). Published q (had (so_many k) + 1)) next),
      sym (ap (λ a. if a then so_many k else with_message (so_many k) (record { position = next_position (so_many k); producer = codes "p"; sequence = pos (k + 1); time = 0; body = body })) new
          ∙ ap (λ (q : Position). with_message (so_many k) (record { position = q; producer = codes "p"; sequence = pos (k + 1); time = 0; body = body })) next),
    ),
  )

  run_published : (k n : ℕ) (events : List Event) (replies : List Reply) (t : State) → may_come k n ≡ true → Run (so_many (end k n)) events replies t → Run (so_many k) (published k n events) (answered k n replies) t
  run_published k zero events replies t may rest = rest
  run_published k (suc n) events replies t may rest =
      let both = and_first (not (is_duplicate (so_many k) producer (pos (k + 1))) && not (is_full (so_many k))) _ may in
      let later = and_second (not (is_duplicate (so_many k) producer (pos (k + 1))) && not (is_full (so_many k))) _ may in (
        so_many (suc k),
        publishes k (turned _ (and_first _ _ both)) (turned _ (and_second (not (is_duplicate (so_many k) producer (pos (k + 1)))) _ both)) (position_is (next_position (so_many k)) (place k) (and_first _ (may_come (suc k) n) later)),
        run_published (suc k) n events replies t (and_second (same_position (next_position (so_many k)) (place k)) _ later) rest,
      )

  abbrev stored : State
  stored = record (so_many 65) { durable = 65 }

  abbrev member : Member
  member = record { number = 1; subscription = codes "s"; level = 0; flow = Window 1; ack_timeout = 0; nack_delay = 0; max_redeliver = 0; dead_topic = name; out = [] }

  abbrev joined : State
  joined = with_member stored Shared None Latest member

  free : (e : Entry) → (is_one_of (map (λ (e : Entry). e.position) (messages 65)) e.position && nat_le e.time 0) ≡ true → may_go joined 0 e ≡ true
  free e ok =
      let one = and_first (is_one_of (map (λ (e : Entry). e.position) (messages 65)) e.position) (nat_le e.time 0) ok in
      let early = and_second (is_one_of (map (λ (e : Entry). e.position) (messages 65)) e.position) (nat_le e.time 0) ok in
      ap₂ (λ a b. ((a && not b && true) && true) && nat_le e.time 0) (set.contains-from_list positions_total (map (λ (e : Entry). e.position) (messages 65)) e.position ∙ one)
      (ap is_some (map_of.get-empty {X = Held} position_cmp e.position)) ∙ early

  front : free_at_front joined 0 ≡ 65
  front = passes_all (may_go joined 0) (messages 65) (all_from (λ e. is_one_of (map (λ (e : Entry). e.position) (messages 65)) e.position && nat_le e.time 0) (may_go joined 0) free (messages 65) refl)

  sixty_four : going joined 0 0 64 ≡ 64
  sixty_four = ap (λ n. min 64 (min (n - 1) 65) / 64 * 64) front

  abbrev last_events : List Event
  last_events = Stored ∷ Subscribe (codes "s") Shared 0 (Window 1) 0 0 0 name Latest None ∷ Trim 0 0 64 ∷ []

  abbrev last_replies : List Reply
  last_replies = Durable 65 ∷ Subscribed 1 ∷ Trimmed 64 ∷ []

  trims : Answers joined (Trim 0 0 64) (Trimmed 64) (trimmed 64 joined)
  trims = (refl, (subst (λ (n : ℕ). 0 < n) (sym sixty_four) (omega arith), ap (λ (n : ℕ). 0 + n) (sym sixty_four), ap (λ n. trimmed n joined) (sym sixty_four)))

  run_last : Run (so_many 65) last_events last_replies (trimmed 64 joined)
  run_last = (stored, (refl, (refl, refl)), (joined, (refl, (refl, refl, tt)), (trimmed 64 joined, trims, refl)))

  comes : (events : List Event) × (replies : List Reply) × (t : State) × Run (fresh name 1) events replies t × AreGone body events replies t
  comes = (
    AddProducer (Some (codes "p")) (pos 0) ∷ published 0 65 last_events,
    ProducerAdded 1 None (pos 0) ∷ answered 0 65 last_replies,
    trimmed 64 joined,
    (so_many 0, (refl, (codes "p", None, (refl, refl), (refl, refl))), run_published 0 65 last_events last_replies (trimmed 64 joined) refl run_last),
    (message 64, refl, refl, refl),
  )

pub may_be_gone : MayCome AreGone
may_be_gone name body = comes name body
