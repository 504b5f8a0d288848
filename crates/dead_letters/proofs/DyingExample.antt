-- A message that dies, in a topic that had so many messages before, all of which went, and as many deaths: it is published, sent
-- twice, not acknowledged, and so dies; its death is stored. Its copy is published in another topic that had as many messages.
use Rattle.std.proofs.Common.{◌≡◌, ℕ, ◌<◌, List, [], ◌∷◌, Some, None, Option, refl, ap, sym, pos, Bool, true, false, arith, ◌∙◌, ap₂, subst, ◌≤◌, Contains, cond}
use Rattle.std.specs.Prelude.{codes, is_some, not, ◌+◌, ◌&&◌, ◌||◌, ◌^◌, negsuc, nat_lt, nat_le, int_le, IsSomeAnd, if◌then◌else◌}
use Rattle.std.specs.Option.{unwrap_or, option_map, option_map_or, option_and_then}
use Rattle.std.specs.List.{find}
use Rattle.std.specs.FinMap as map_of
use Rattle.std.specs.FinMap.{FinMap}
use Rattle.std.specs.FinSet as set
use Rattle.std.proofs.lemmas.Bool.Decides.{nat_tests}
use Rattle.std.proofs.lemmas.List.Elements.{All-nil, All-cons, All-same}
use Rattle.position_core.specs.declared.position.Position.{Position}
use Rattle.position_core.specs.declared.topic_name.TopicName.{TopicName}
use Rattle.position_core.specs.declared.body.Content.{Content}
use Rattle.position_core.specs.declared.message.Entry.{Entry}
use Rattle.position_core.specs.declared.held.Held.{Held}
use Rattle.position_core.specs.declared.fault.Fault.TheVariants.{TopicFull, NoSuchMessage}
use Rattle.position_core.specs.declared.flow.Flow.TheVariants.{Window}
use Rattle.position_core.specs.declared.kind.Kind.TheVariants.{Shared}
use Rattle.position_core.specs.Position.{position_cmp, same_position, positions_total, exact_positions}
use Rattle.position_core.specs.Flow.{flow_has_room}
use Rattle.delivery_machine.specs.State.{State, Author, Subscription, Member, DeadLetter, fresh}
use Rattle.delivery_machine.specs.Words.{known, last_sequence, is_member, with_room, count_of, is_held_by, is_waiting, has_room, IsEligible}
use Rattle.delivery_machine.specs.Acknowledging.{is_one_of}
use Rattle.delivery_machine.specs.Producing.{had, with_producer, with_message, stored}
use Rattle.delivery_machine.specs.Joining.{with_member, new_subscription}
use Rattle.delivery_machine.specs.Delivering.{sent, given, holding}
use Rattle.delivery_machine.specs.Ticking.{redelivered, recounted, counted_again, is_due}
use Rattle.delivery_machine.specs.Dying.{is_to_die, dying_at, died, moved}
use Rattle.delivery_machine.specs.Snapshot.{snapshot_of, restarted}
use Rattle.delivery_machine.specs.Run.{Answers}
use Rattle.delivery_machine.specs.declared.delivery.Delivery.{Delivery}
use Rattle.delivery_machine.specs.declared.event.Initial.TheVariants.{Earliest}
use Rattle.delivery_machine.specs.declared.event.Event.TheVariants.{AddProducer, Publish, Stored, Subscribe, Dispatch, Tick, DeadNext, DeadDone}
use Rattle.delivery_machine.specs.declared.reply.Reply.TheVariants.{ProducerAdded, Published, Duplicate, Durable, Subscribed, Done, Sent, Released, Died, Dead, NoDead}
use Rattle.delivery_machine.proofs.Messages.{position_itself}
use Rattle.delivery_machine.proofs.Deciding.{itself, turned}
use Rattle.dead_letters.specs.declared.route.Route.{Route}
use Rattle.dead_letters.specs.declared.hand.Letter.{Letter}
use Rattle.dead_letters.specs.Moving.{sequence_of}

abbrev pub a : TopicName
a = record { tenant = codes "t"; namespace = codes "n"; topic = codes "a" }

abbrev pub b : TopicName
b = record { tenant = codes "t"; namespace = codes "n"; topic = codes "b" }

abbrev pub name : List ℕ
name = codes "s"

abbrev pub way : Route
way = record { source = a; subscription = name; name = codes "dlq/t/n/a/s" }

abbrev Pending : Type 0
Pending = FinMap position_cmp Held

abbrev Counts : Type 0
Counts = FinMap position_cmp ℕ

below_test : (m n : ℕ) → m < n → nat_lt m n ≡ true
below_test m n low = grind (arith, nat_tests)

above_test : (m n : ℕ) → m < n → nat_lt n m ≡ false
above_test m n low = grind (arith, nat_tests)

module _ (body : Content) (k : ℕ) where
  abbrev pub first : Position
  first = record { ledger = k; entry = 0 }

  abbrev pub message : Entry
  message = record { position = first; producer = codes "p"; sequence = pos 1; time = 0; body = body }

  abbrev member : Member
  member = record { number = 1; subscription = name; level = 0; flow = Window 1; ack_timeout = 1; nack_delay = 0; max_redeliver = 1; dead_topic = b; out = [] }

  abbrev new : Subscription
  new = new_subscription name Shared None 1 Earliest (message ∷ [])

  -- what is pending, and how often it was redelivered
  abbrev sub : Pending → Counts → Subscription
  sub pending counts = record new { pending = pending; counts = counts }

  abbrev pub s0 : State
  s0 = record (fresh a 1) { ledger = k; next_ordinal = k; gone = k }

  abbrev pub s1 : State
  s1 = with_producer s0 (record { number = 1; name = codes "p"; base = pos 0 })

  abbrev pub s2 : State
  s2 = with_message s1 message

  abbrev pub k2 : State
  k2 = restarted (snapshot_of s2)

  abbrev pub s3 : State
  s3 = record s2 { durable = 1 }

  abbrev pub s4 : State
  s4 = with_member s3 Shared None Earliest member

  pub connects : Answers s0 (AddProducer (Some (codes "p")) (pos 0)) (ProducerAdded 1 None (pos 0)) s1
  connects = (refl, (codes "p", None, (refl, refl), (refl, refl)))

  pub message_stored : Answers s2 Stored (Durable (had s2)) s3
  message_stored = (refl, (refl, refl))

  pub subscribes : Answers s3 (Subscribe name Shared 0 (Window 1) 1 0 1 b Earliest None) (Subscribed 1) s4
  subscribes = (refl, (refl, refl, tt))

  abbrev at : Pending → Counts → State
  at pending counts = record s4 { subscriptions = sub pending counts ∷ []; members = member ∷ [] }

  itself_there : same_position first first ≡ true
  itself_there = position_itself first

  -- ---- the message may be sent where it is not pending

  module _ (pending : Pending) (counts : Counts) (none : map_of.get pending first ≡ None) where
    waits : is_waiting (sub pending counts) message ≡ true
    waits = ap₂ (λ (c : Bool) (o : Option Held). (not c && true) && not (is_some o)) (set.contains-empty position_cmp first) none

    room : has_room (at pending counts) (sub pending counts) member ≡ true
    room = ap (λ o. flow_has_room (Window 1) (0 + cond {A = ℕ} (is_held_by 1 o) 1 0)) none

    alone : with_room (at pending counts) (sub pending counts) ≡ member ∷ []
    alone = ap (λ c. cond c (member ∷ []) []) room

    eligible : IsEligible (at pending counts) (sub pending counts) message member
    eligible = (
      room,
      (
        ap (λ c. cond c (Some message) None) waits,
        subst (λ (ms : List Member). Contains ms member) (sym alone) (0, omega arith, refl),
        All-same (λ other. member.level ≤ other.level) (with_room (at pending counts) (sub pending counts)) (member ∷ []) alone
            (All-cons (λ other. member.level ≤ other.level) member [] (omega arith) (All-nil (λ other. member.level ≤ other.level))),
      ),
    )

    sends : (now count : ℕ) → count ≡ count_of (sub pending counts) first → Answers (at pending counts) (Dispatch name now) (Sent 1 first count) (sent (at pending counts) name (sub pending counts) message member now)
    sends now count is = (refl, (message, member, eligible, refl, refl, is, refl))

  -- ---- it is sent, and waits again

  abbrev held : ℕ → Held
  held due = record { consumer = 1; due = Some due }

  abbrev no_pending : Pending
  no_pending = map_of.empty

  abbrev no_counts : Counts
  no_counts = map_of.empty

  nothing : map_of.get no_pending first ≡ None
  nothing = map_of.get-empty position_cmp first

  uncounted : 0 ≡ count_of (sub no_pending no_counts) first
  uncounted = sym (ap (λ (o : Option ℕ). unwrap_or o 0) (map_of.get-empty position_cmp first))

  abbrev pub s5 : State
  s5 = sent s4 name (sub no_pending no_counts) message member 0

  pub sent_once : Answers s4 (Dispatch name 0) (Sent 1 first 0) s5
  sent_once = sends no_pending no_counts nothing 0 0 uncounted

  is_held : (pending : Pending) (due : ℕ) → map_of.get (map_of.insert pending first (held due)) first ≡ Some (held due)
  is_held pending due = map_of.get-insert positions_total pending first (held due) first ∙ ap (λ (c : Bool). cond c (Some (held due)) (map_of.get pending first)) itself_there

  -- whether it dies, where it is due
  dying : (s : State) (one : Subscription) (due : ℕ) → map_of.get one.pending first ≡ Some (held due)
      → dying_at s one first ≡ option_and_then (λ (m : Member). if is_to_die s.next_ordinal one first m then Some m else None) (find (is_member 1) s.members)
  dying s one due is = ap (option_and_then (λ (h : Held). option_and_then (λ (m : Member). if is_to_die s.next_ordinal one first m then Some m else None) (find (is_member h.consumer) s.members))) is

  abbrev sub5 : Subscription
  sub5 = holding first (held 1) (sub no_pending no_counts)

  abbrev sent_first : Delivery
  sent_first = record { message = message; count = count_of (sub no_pending no_counts) first }

  abbrev member5 : Member
  member5 = given sent_first member

  stays : dying_at s5 sub5 first ≡ None
  stays =
      dying s5 sub5 1 (is_held no_pending 1)
      ∙ ap (λ (count : ℕ). if nat_lt 0 1 && nat_le 1 count && nat_lt k (2 ^ 62) then Some member5 else None) (sym uncounted)

  abbrev keeps : Position → Bool
  keeps p = not (is_one_of (first ∷ []) p)

  abbrev again : Pending
  again = map_of.retain_keys (map_of.insert no_pending first (held 1)) keeps

  abbrev once : Counts
  once = recounted (first ∷ []) no_counts

  abbrev pub s6 : State
  s6 = at again once

  -- the member has nothing to collect then
  forgotten : s6 ≡ redelivered s5 name (first ∷ [])
  forgotten = sym (ap (λ (c : Bool). record s6 { members = record member { out = cond (not (c || false)) (sent_first ∷ []) [] } ∷ [] }) itself_there)

  pub released : Answers s5 (Tick name 1) (Released first) s6
  released = (refl, (refl, ap (is_due 1) (is_held no_pending 1), stays, forgotten))

  gone : map_of.get again first ≡ None
  gone =
      map_of.get-retain_keys (map_of.insert no_pending first (held 1)) keeps first (λ x t. ap keeps (sym (exact_positions first x t)))
      ∙ ap (λ (c : Bool). cond (not (c || false)) (map_of.get (map_of.insert no_pending first (held 1)) first) None) itself_there

  counted : 1 ≡ count_of (sub again once) first
  counted = sym (
      ap (λ (o : Option ℕ). unwrap_or o 0) (map_of.get-insert positions_total no_counts first (counted_again (unwrap_or (map_of.get no_counts first) 0)) first)
      ∙ ap (λ (c : Bool). unwrap_or (cond c (Some (counted_again (unwrap_or (map_of.get no_counts first) 0))) (map_of.get no_counts first)) 0) itself_there
      ∙ ap (λ (o : Option ℕ). counted_again (unwrap_or o 0)) (map_of.get-empty position_cmp first)
      )

  abbrev pub s7 : State
  s7 = sent s6 name (sub again once) message member 1

  pub sent_again : Answers s6 (Dispatch name 1) (Sent 1 first 1) s7
  sent_again = sends again once gone 1 1 counted

  abbrev sub7 : Subscription
  sub7 = holding first (held 2) (sub again once)

  abbrev member7 : Member
  member7 = given (record { message = message; count = count_of (sub again once) first }) member

  abbrev pub s8 : State
  s8 = died s7 name first member7

  abbrev pub k8 : State
  k8 = restarted (snapshot_of s8)

  abbrev pub s9 : State
  s9 = stored s8

  pub death_stored : Answers s8 Stored (Durable (had s8)) s9
  death_stored = (refl, (refl, refl))

  abbrev pub letter : DeadLetter
  letter = record { position = first; target = b; ordinal = k }

  abbrev pub taken : Letter
  taken = record { message = message; target = b; ordinal = k }

  abbrev pub s10 : State
  s10 = moved s9 name letter

  pub shows : Answers s9 (DeadNext name) (Dead message b k) s9
  shows = (
    refl,
    (
      sym (ap (λ (c : Bool). option_map_or (λ (p : DeadLetter × Entry). Dead p.1 p.0.target p.0.ordinal) (option_map {U = DeadLetter × Entry} (λ (e : Entry). (letter, e)) (cond c (Some message) None)) NoDead) itself_there),
      refl,
    ),
  )

  pub finishes : Answers s9 (DeadDone name k) Done s10
  finishes = (ap (λ (c : Bool). if c then None else Some NoSuchMessage) (itself k), (refl, refl))

  -- ---- where a number is left

  module _ (few : k < 2 ^ 62) where
    pub publishes : Answers s1 (Publish 1 (pos 1) body 0) (Published first (had s1 + 1)) s2
    publishes = (ap (λ (c : Bool). if c then Some TopicFull else None) (above_test k (2 ^ 62) few), (refl, refl))

    last : dying_at s7 sub7 first ≡ Some member7
    last =
        dying s7 sub7 2 (is_held again 2)
        ∙ ap₂ (λ (count : ℕ) (c : Bool). if nat_lt 0 1 && nat_le 1 count && c then Some member7 else None) (sym counted) (below_test k (2 ^ 62) few)

    pub dies : Answers s7 (Tick name 2) (Died first k) s8
    dies = (refl, (refl, ap (is_due 2) (is_held again 2), refl, subst (λ (o : Option Member). IsSomeAnd o (λ m. s8 ≡ died s7 name first m)) (sym last) refl))

  -- ---- the copy, in a topic that remembers these producers

  abbrev pub copy : Entry
  copy = record { position = first; producer = way.name; sequence = sequence_of k; time = 0; body = body }

  module _ (authors : List Author) where
    abbrev pub t0 : State
    t0 = record (fresh b 1) { ledger = k; gone = k; authors = authors }

    abbrev pub t1 : State
    t1 = with_producer t0 (record { number = 1; name = way.name; base = negsuc 0 })

    abbrev pub t2 : State
    t2 = with_message t1 copy

    abbrev pub t3 : State
    t3 = record t2 { producers = [] }

    abbrev pub k3 : State
    k3 = restarted (snapshot_of t3)

    abbrev pub t4 : State
    t4 = stored t3

    -- the copy is above all that is known
    abbrev pub is_new : Bool
    is_new = not (int_le (sequence_of k) (last_sequence (known t0) way.name (negsuc 0)))

    pub joins : Answers t0 (AddProducer (Some way.name) (negsuc 0)) (ProducerAdded 1 None (last_sequence (known t0) way.name (negsuc 0))) t1
    joins = (refl, (way.name, None, (refl, refl), (refl, refl)))

    pub copies : k < 2 ^ 62 → is_new ≡ true → Answers t1 (Publish 1 (sequence_of k) body 0) (Published first (had t1 + 1)) t2
    copies few above =
        let new = turned _ above in (
          ap₂ (λ (old full : Bool). if old then None else if full then Some TopicFull else None) new (above_test k (2 ^ 62) few),
          (
            ap (λ (old : Bool). if old then Duplicate (had t1) else Published first (had t1 + 1)) (sym new),
            ap (λ (old : Bool). if old then t1 else t2) (sym new),
          ),
        )
