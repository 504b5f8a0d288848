-- Each step is of one of the six kinds.
use Rattle.std.proofs.Common.{◌≡◌, ℕ, ◌+◌, List, [], ◌∷◌, ◌++◌, map, Some, None, Option, Bool, true, false, cond, refl, ap, ◌∙◌, sym, subst}
use Rattle.std.specs.Prelude.{◌==◌, not, is_some, take, if◌then◌else◌}
use Rattle.std.specs.List.{find}
use Rattle.std.specs.Option.{option_map_or}
use Rattle.std.specs.FinMap as map_of
use Rattle.position_core.specs.declared.position.Position.{Position}
use Rattle.position_core.specs.declared.message.Entry.{Entry}
use Rattle.position_core.specs.declared.kind.Kind.{Kind}
use Rattle.position_core.specs.declared.fault.Fault.{Fault}
use Rattle.position_core.specs.declared.fault.Fault.TheVariants.{NoMemory}
use Rattle.position_core.specs.declared.flow.Flow.{Flow}
use Rattle.position_core.specs.declared.flow.Flow.TheVariants.{Window, Credit}
use Rattle.position_core.specs.Flow.{begun}
use Rattle.position_core.specs.declared.ranges.HashRange.{HashRange}
use Rattle.delivery_machine.specs.State.{State, Subscription, Member}
use Rattle.delivery_machine.specs.Words.{changed, is_named, is_member, is_producer, is_held_by, emptied, emptied_at, active_at, next_position, count_of}
use Rattle.delivery_machine.specs.Refusals.{refusal_of, nacking_refused, is_duplicate}
use Rattle.delivery_machine.specs.Producing.{storing, storing_below, with_message, message_of}
use Rattle.delivery_machine.specs.Joining.{releasing_all, all_released, is_taken_over, taken_over, joining, joined, leaving, permitted, without_member, placed, new_subscription, with_member}
use Rattle.delivery_machine.specs.Acknowledging.{acknowledging, is_one_of, Acks, positions_up_to}
use Rattle.delivery_machine.specs.Delivering.{holding, given, due_after, Dispatches}
use Rattle.delivery_machine.specs.Ticking.{redelivering, Ticks, pending_positions}
use Rattle.delivery_machine.specs.Seeking.{seeking, length_before, length_before_time, first_live}
use Rattle.delivery_machine.specs.Dying.{burying, moving, dying_at, first_safe, letter_of}
use Rattle.delivery_machine.specs.Trimming.{going, without_messages, Trims}
use Rattle.delivery_machine.specs.Run.{Answers, Takes}
use Rattle.delivery_machine.specs.Laws.{permitted_to, joins_to_pull}
use Rattle.delivery_machine.specs.declared.event.Initial.{Initial}
use Rattle.delivery_machine.specs.declared.event.Event.{Event}
use Rattle.delivery_machine.specs.declared.event.Event.TheVariants.{AddProducer, DropProducer, Publish, Stored, StoredTo, Progress, Subscribe, Leave, Permit, Ack, AckUpTo, Nack, Tick, Seek, SeekTime, Skip, DropSubscription, Stats, Trim, SetRetention, Dispatch, Collect, DeadNext, DeadDone}
use Rattle.delivery_machine.specs.declared.reply.Reply.{Reply}
use Rattle.delivery_machine.specs.declared.reply.Reply.TheVariants.{Sent, Idle, Quiet, Rewound, Released, Died, Refused, Trimmed, Untrimmed}
use Rattle.delivery_machine.proofs.Firsts.{some_elim}
use Rattle.delivery_machine.proofs.Tending.{part_retained, part_empty, part_held_again, none_pending}
use Rattle.delivery_machine.proofs.Kept.{IsKept}
use Rattle.machine_laws.proofs.Seats.{seats, has_number, seats_of_changed, seats_stay, seats_of_removed, seats_of_pushed, forgotten_stay, emptied_stay}
use Rattle.machine_laws.proofs.Shrinking.{Shrinks, shrinks_not, shrinks_then, shrinks_changed, shrinks_mapped, shrinks_placed, shrinks_removed, part_itself}
use Rattle.machine_laws.proofs.FlowSteps.{SendsNone, JoinsNone, Moves, Moves.stays, Moves.appends, Moves.joins, Moves.leaves, Moves.permits, Moves.sends, joins_to_push, pulls_if, pushes_if, pulls_so, pushes_so, granting, spending}
use Rattle.delivery_machine.proofs.Deciding.{holds_unless_refused}

-- ---- takeover

module _ (n : List ℕ) (before : Option ℕ) (s : State) where
  over_members : seats (taken_over n before s).members ≡ seats s.members
  over_members = by (is_taken_over n before s)
    where
      by : (b : Bool) → seats (if b then all_released n s else s).members ≡ seats s.members
      by true = emptied_stay n s.members
      by false = refl

  over_next : (taken_over n before s).next_consumer ≡ s.next_consumer
  over_next = by (is_taken_over n before s)
    where
      by : (b : Bool) → (if b then all_released n s else s).next_consumer ≡ s.next_consumer
      by true = refl
      by false = refl

  over_log : (taken_over n before s).log ≡ s.log
  over_log = by (is_taken_over n before s)
    where
      by : (b : Bool) → (if b then all_released n s else s).log ≡ s.log
      by true = refl
      by false = refl

  over_shrinks : Shrinks s.subscriptions (taken_over n before s).subscriptions
  over_shrinks = by (is_taken_over n before s)
    where
      by : (b : Bool) → Shrinks s.subscriptions (if b then all_released n s else s).subscriptions
      by true = shrinks_changed n releasing_all s.subscriptions (λ _. refl) (λ sub _. part_empty sub.pending)
      by false = shrinks_not s.subscriptions

-- ---- steps in which members stay

-- the new state is known, and nobody was sent anything
module _ (s : State) (event : Event) (reply : Reply) (sends_none : SendsNone event reply) (joins_none : JoinsNone event reply) where
  stays_as : (t u : State) → t ≡ u → seats u.members ≡ seats s.members → u.next_consumer ≡ s.next_consumer → u.log ≡ s.log → Shrinks s.subscriptions u.subscriptions → Moves s event reply t
  stays_as t u is members next log shrinks =
      subst (Moves s event reply) (sym is) (stays (record { members_as = members; next_as = next; trims = 0; log_as = log; shrinks = shrinks; sends = sends_none; joins = joins_none }))

  unmoved : (t : State) → t ≡ s → Moves s event reply t
  unmoved t is = stays_as t s is refl refl refl (shrinks_not s.subscriptions)

  acknowledges : (n : List ℕ) (positions : List Position) → Shrinks s.subscriptions (changed (is_named n) (acknowledging positions) s.subscriptions)
  acknowledges n positions = shrinks_changed n (acknowledging positions) s.subscriptions (λ _. refl) (λ sub _. part_retained sub.pending (λ p. not (is_one_of positions p)))

  redelivers : (n : List ℕ) (positions : List Position) → Shrinks s.subscriptions (changed (is_named n) (redelivering positions) s.subscriptions)
  redelivers n positions = shrinks_changed n (redelivering positions) s.subscriptions (λ _. refl) (λ sub _. part_retained sub.pending (λ p. not (is_one_of positions p)))

  acks_moves : (consumer : ℕ) (positions : List Position) (t : State) → Acks s consumer positions reply t → Moves s event reply t
  acks_moves consumer positions t h =
      some_elim (find (is_member consumer) s.members) _ (Moves s event reply t) h.1 (λ m found is.
      stays_as t _ is (forgotten_stay m.subscription positions s.members) refl refl (acknowledges m.subscription positions))

  seeks_moves : (n : List ℕ) (count : ℕ) (t : State) → t ≡ record s { subscriptions = changed (is_named n) (seeking (take count s.log)) s.subscriptions; members = map (emptied_at n) s.members } → Moves s event reply t
  seeks_moves n count t is =
      stays_as t _ is (emptied_stay n s.members) refl refl (shrinks_changed n (seeking (take count s.log)) s.subscriptions (λ _. refl) (λ sub _. part_empty sub.pending))

  -- a message that is pending at the consumer falls due at another moment
  nack_moves : (m : Member) (consumer : ℕ) (p : Position) (due : Option ℕ) (t : State) → nacking_refused s consumer p (Some m) ≡ None
      → t ≡ record s { subscriptions = changed (is_named m.subscription) (holding p (record { consumer = consumer; due = due })) s.subscriptions } → Moves s event reply t
  nack_moves m consumer p due t allowed is =
      stays_as t _ is refl refl refl
      (shrinks_changed m.subscription (holding p (record { consumer = consumer; due = due })) s.subscriptions (λ _. refl)
      (λ sub found. part_held_again sub.pending p (record { consumer = consumer; due = due })
      (sym (ap (λ o. option_map_or (λ sub. is_held_by consumer (map_of.get sub.pending p)) o false) found) ∙ holds_unless_refused _ _ allowed)))

tick_moves : (s : State) (n : List ℕ) (now : ℕ) (sub : Subscription) (reply : Reply) (t : State) → Ticks s n now sub reply t → Moves s (Tick n now) reply t
tick_moves s n now sub Quiet t h = unmoved s (Tick n now) Quiet (λ _. refl) (λ _. (refl, refl)) t h.1
tick_moves s n now sub (Rewound count) t h =
    stays_as s (Tick n now) (Rewound count) (λ _. refl) (λ _. (refl, refl)) t _ h.3 (forgotten_stay n (pending_positions s sub) s.members) refl refl
    (redelivers s (Tick n now) (Rewound count) (λ _. refl) (λ _. (refl, refl)) n (pending_positions s sub))
tick_moves s n now sub (Released p) t h =
    stays_as s (Tick n now) (Released p) (λ _. refl) (λ _. (refl, refl)) t _ h.3 (forgotten_stay n (p ∷ []) s.members) refl refl
    (redelivers s (Tick n now) (Released p) (λ _. refl) (λ _. (refl, refl)) n (p ∷ []))
tick_moves s n now sub (Died p ordinal) t h =
    some_elim (dying_at s sub p) _ (Moves s (Tick n now) (Died p ordinal) t) h.3 (λ m found is.
    stays_as s (Tick n now) (Died p ordinal) (λ _. refl) (λ _. (refl, refl)) t _ is (forgotten_stay n (p ∷ []) s.members) refl refl
    (shrinks_changed n (burying (letter_of s p m)) s.subscriptions (λ _. refl) (λ sub _. part_retained sub.pending (λ q. not (is_one_of (p ∷ []) q)))))
tick_moves s n now sub reply t h = absurd h

-- ---- the other steps

publish_moves : (s : State) (event : Event) (reply : Reply) (e : Entry) (t : State) (duplicate : Bool) → SendsNone event reply → JoinsNone event reply → e.position ≡ next_position s
    → t ≡ (if duplicate then s else with_message s e) → Moves s event reply t
publish_moves s event reply e t true sends_none joins_none next is = unmoved s event reply sends_none joins_none t is
publish_moves s event reply e t false sends_none joins_none next is =
    subst (Moves s event reply) (sym is)
    (appends (record { members_as = refl; next_as = refl; e = e; next = next; log_as = refl; subscriptions_as = refl; sends = sends_none; joins = joins_none }))

joined_shrinks : (s : State) (n : List ℕ) (kind : Kind) (ranges : Option (List HashRange)) (consumer : ℕ) (initial : Initial) → Shrinks s.subscriptions (joined s n kind ranges consumer initial)
joined_shrinks s n kind ranges consumer initial = by (find (is_named n) s.subscriptions)
  where
    new : Subscription
    new = new_subscription n kind ranges consumer initial s.log

    by : (o : Option Subscription) → Shrinks s.subscriptions (if is_some o then changed (is_named n) (joining kind ranges consumer) s.subscriptions else placed new s.subscriptions)
    by (Some sub) = shrinks_changed n (joining kind ranges consumer) s.subscriptions (λ _. refl) (λ sub _. part_itself sub.pending)
    by None = shrinks_placed new s.subscriptions none_pending

-- the event is one by which the member joins
joins_moves : (s : State) (event : Event) (reply : Reply) (t : State) (kind : Kind) (ranges : Option (List HashRange)) (initial : Initial) (m : Member) (flow : Flow) (before : Option ℕ)
    → m.number ≡ s.next_consumer → m.flow ≡ begun flow → SendsNone event reply
    → ((consumer : ℕ) → joins_to_pull consumer event reply ≡ pulls_if flow (s.next_consumer == consumer)) → ((consumer : ℕ) → joins_to_push consumer event reply ≡ pushes_if flow (s.next_consumer == consumer))
    → t ≡ taken_over m.subscription before (with_member s kind ranges initial m) → Moves s event reply t
joins_moves s event reply t kind ranges initial m flow before numbered flows sends_none pulls pushes is =
    let after = with_member s kind ranges initial m in
    subst (Moves s event reply) (sym is)
    (joins (record {
      name = m.subscription;
      flow = flow;
      members_as = over_members m.subscription before after ∙ seats_of_pushed s.members m
          ∙ ap (λ n. seats s.members ++ record { number = n; name = m.subscription; flow = m.flow } ∷ []) numbered
          ∙ ap (λ f. seats s.members ++ record { number = s.next_consumer; name = m.subscription; flow = f } ∷ []) flows;
      next_as = over_next m.subscription before after;
      log_as = over_log m.subscription before after;
      shrinks = shrinks_then s.subscriptions after.subscriptions (taken_over m.subscription before after).subscriptions
          (joined_shrinks s m.subscription kind ranges m.number initial) (over_shrinks m.subscription before after);
      sends = sends_none;
      pulls = pulls;
      pushes = pushes;
    }))

leaves_moves : (s : State) (reply : Reply) (t : State) (consumer : ℕ) (m : Member) (before : Option ℕ) → t ≡ taken_over m.subscription before (without_member s consumer m.subscription) → Moves s (Leave consumer) reply t
leaves_moves s reply t consumer m before is =
    let after = without_member s consumer m.subscription in
    subst (Moves s (Leave consumer) reply) (sym is)
    (leaves (record {
      number = consumer;
      members_as = over_members m.subscription before after ∙ seats_of_removed consumer s.members;
      next_as = over_next m.subscription before after;
      log_as = over_log m.subscription before after;
      shrinks = shrinks_then s.subscriptions after.subscriptions (taken_over m.subscription before after).subscriptions
          (shrinks_changed m.subscription (leaving consumer) s.subscriptions (λ _. refl) (λ sub _. part_retained sub.pending (λ p. not (is_held_by consumer (map_of.get sub.pending p)))))
          (over_shrinks m.subscription before after);
      sends = λ _. refl;
      joins = λ _. (refl, refl);
    }))

dispatch_moves : (s : State) (n : List ℕ) (now : ℕ) (sub : Subscription) (reply : Reply) (t : State) → find (is_named n) s.subscriptions ≡ Some sub → Dispatches s n now sub reply t → Moves s (Dispatch n now) reply t
dispatch_moves s n now sub (Sent consumer p count) t found h =
    subst (Moves s (Dispatch n now) (Sent consumer p count)) (sym h.6)
    (sends (record {
      name = n;
      sub = sub;
      e = h.0;
      m = h.1;
      due = due_after now h.1.ack_timeout;
      found = found;
      eligible = h.2;
      members_as = seats_of_changed (is_member h.1.number) (has_number h.1.number) (given (record { message = h.0; count = count_of sub h.0.position })) spending (λ _. refl) (λ _. refl) s.members;
      next_as = refl;
      log_as = refl;
      subscriptions_as = refl;
      sent_as = λ c. ap (λ k. cond {A = ℕ} (k == c) 1 0) h.3;
      joins = λ _. (refl, refl);
    }))
dispatch_moves s n now sub Idle t found h = unmoved s (Dispatch n now) Idle (λ _. refl) (λ _. (refl, refl)) t h.1
dispatch_moves s n now sub reply t found h = absurd h

trim_moves : (s : State) (keep before most : ℕ) (reply : Reply) (t : State) → Trims s keep before most reply t → Moves s (Trim keep before most) reply t
trim_moves s keep before most (Trimmed all) t h =
    let count : ℕ = going s keep before most in
    subst (Moves s (Trim keep before most) (Trimmed all)) (sym h.2)
    (stays (record {
      members_as = refl;
      next_as = refl;
      trims = count;
      log_as = refl;
      shrinks = shrinks_mapped (without_messages (map (λ (e : Entry). e.position) (take count s.log))) s.subscriptions (λ _. refl) (λ _. refl);
      sends = λ _. refl;
      joins = λ _. (refl, refl);
    }))
trim_moves s keep before most Untrimmed t h = unmoved s (Trim keep before most) Untrimmed (λ _. refl) (λ _. (refl, refl)) t h.1
trim_moves s keep before most reply t h = absurd h

takes_moves : (s : State) (event : Event) (reply : Reply) (t : State) → refusal_of s event ≡ None → Takes s event reply t → IsKept s → Moves s event reply t
takes_moves s (AddProducer n base) reply t allowed h kept = stays_as s (AddProducer n base) reply (λ _. refl) (λ _. (refl, refl)) t _ h.3.1 refl refl refl (shrinks_not s.subscriptions)
takes_moves s (DropProducer producer) reply t allowed h kept = stays_as s (DropProducer producer) reply (λ _. refl) (λ _. (refl, refl)) t _ h.1 refl refl refl (shrinks_not s.subscriptions)
takes_moves s (Publish producer sequence body now) reply t allowed h kept =
    some_elim (find (is_producer producer) s.producers) _ (Moves s (Publish producer sequence body now) reply t) h (λ p found h.
    publish_moves s (Publish producer sequence body now) reply (message_of s p sequence body now) t (is_duplicate s p sequence) (λ _. refl) (λ _. (refl, refl)) refl h.1)
takes_moves s Stored reply t allowed h kept =
    stays_as s Stored reply (λ _. refl) (λ _. (refl, refl)) t _ h.1 refl refl refl (shrinks_mapped storing s.subscriptions (λ _. refl) (λ _. refl))
takes_moves s (StoredTo count ordinal) reply t allowed h kept =
    stays_as s (StoredTo count ordinal) reply (λ _. refl) (λ _. (refl, refl)) t _ h.1 refl refl refl (shrinks_mapped (storing_below ordinal) s.subscriptions (λ _. refl) (λ _. refl))
takes_moves s Progress reply t allowed h kept = unmoved s Progress reply (λ _. refl) (λ _. (refl, refl)) t h.1
takes_moves s (Subscribe n kind level flow ack_timeout nack_delay max_redeliver dead_topic initial ranges) reply t allowed h kept =
    joins_moves s (Subscribe n kind level flow ack_timeout nack_delay max_redeliver dead_topic initial ranges) reply t kind ranges initial _ flow (active_at s n) refl refl (λ _. refl)
    (λ c. ap (joins_to_pull c (Subscribe n kind level flow ack_timeout nack_delay max_redeliver dead_topic initial ranges)) h.0 ∙ pulls_so c n kind level flow ack_timeout nack_delay max_redeliver dead_topic initial ranges s.next_consumer)
    (λ c. ap (joins_to_push c (Subscribe n kind level flow ack_timeout nack_delay max_redeliver dead_topic initial ranges)) h.0 ∙ pushes_so c n kind level flow ack_timeout nack_delay max_redeliver dead_topic initial ranges s.next_consumer)
    h.1
takes_moves s (Leave consumer) reply t allowed h kept =
    some_elim (find (is_member consumer) s.members) _ (Moves s (Leave consumer) reply t) h.1 (λ m found is. leaves_moves s reply t consumer m (active_at s m.subscription) is)
takes_moves s (Permit consumer n) reply t allowed h kept =
    subst (Moves s (Permit consumer n) reply) (sym h.1)
    (permits (record {
      number = consumer;
      permits = n;
      members_as = seats_of_changed (is_member consumer) (has_number consumer) (permitted n) (granting n) (λ _. refl) (λ _. refl) s.members;
      next_as = refl;
      log_as = refl;
      subscriptions_as = refl;
      permitted_as = λ c. ap (permitted_to c (Permit consumer n)) h.0;
      sends = λ _. refl;
      joins = λ _. (refl, refl);
    }))
takes_moves s (Ack consumer p) reply t allowed h kept = acks_moves s (Ack consumer p) reply (λ _. refl) (λ _. (refl, refl)) consumer (p ∷ []) t h
takes_moves s (AckUpTo consumer p) reply t allowed h kept = acks_moves s (AckUpTo consumer p) reply (λ _. refl) (λ _. (refl, refl)) consumer (positions_up_to p s.log) t h
takes_moves s (Nack consumer p now) reply t allowed h kept =
    some_elim (find (is_member consumer) s.members) _ (Moves s (Nack consumer p now) reply t) h.1 (λ m found is.
    nack_moves s (Nack consumer p now) reply (λ _. refl) (λ _. (refl, refl)) m consumer p (Some (now + m.nack_delay)) t (sym (ap (nacking_refused s consumer p) found) ∙ allowed) is)
takes_moves s (Tick n now) reply t allowed h kept = some_elim (find (is_named n) s.subscriptions) _ (Moves s (Tick n now) reply t) h (λ sub found h. tick_moves s n now sub reply t h)
takes_moves s (Seek n target) reply t allowed h kept = seeks_moves s (Seek n target) reply (λ _. refl) (λ _. (refl, refl)) n (length_before s target) t h.1
takes_moves s (SeekTime n time) reply t allowed h kept = seeks_moves s (SeekTime n time) reply (λ _. refl) (λ _. (refl, refl)) n (length_before_time s time) t h.1
takes_moves s (Skip n count) reply t allowed h kept =
    some_elim (find (is_named n) s.subscriptions) _ (Moves s (Skip n count) reply t) h (λ sub found h.
    stays_as s (Skip n count) reply (λ _. refl) (λ _. (refl, refl)) t _ h.1 (forgotten_stay n (first_live s sub count) s.members) refl refl
    (acknowledges s (Skip n count) reply (λ _. refl) (λ _. (refl, refl)) n (first_live s sub count)))
takes_moves s (DropSubscription n) reply t allowed h kept =
    stays_as s (DropSubscription n) reply (λ _. refl) (λ _. (refl, refl)) t _ h.1 refl refl refl (shrinks_removed n s.subscriptions kept.tended.behind)
takes_moves s (Stats n) reply t allowed h kept =
    some_elim (find (is_named n) s.subscriptions) _ (Moves s (Stats n) reply t) h (λ sub found h. unmoved s (Stats n) reply (λ _. refl) (λ _. (refl, refl)) t h.1)
takes_moves s (Trim keep before most) reply t allowed h kept = trim_moves s keep before most reply t h
takes_moves s (SetRetention retention) reply t allowed h kept = stays_as s (SetRetention retention) reply (λ _. refl) (λ _. (refl, refl)) t _ h.1 refl refl refl (shrinks_not s.subscriptions)
takes_moves s (Dispatch n now) reply t allowed h kept =
    some_elim (find (is_named n) s.subscriptions) _ (Moves s (Dispatch n now) reply t) h (λ sub found h. dispatch_moves s n now sub reply t found h)
takes_moves s (Collect consumer) reply t allowed h kept =
    stays_as s (Collect consumer) reply (λ _. refl) (λ _. (refl, refl)) t _ h.1 (seats_stay (is_member consumer) emptied (λ _. refl) s.members) refl refl (shrinks_not s.subscriptions)
takes_moves s (DeadNext n) reply t allowed h kept =
    some_elim (find (is_named n) s.subscriptions) _ (Moves s (DeadNext n) reply t) h (λ sub found h. unmoved s (DeadNext n) reply (λ _. refl) (λ _. (refl, refl)) t h.1)
takes_moves s (DeadDone n ordinal) reply t allowed h kept =
    some_elim (find (is_named n) s.subscriptions) _ (Moves s (DeadDone n ordinal) reply t) h (λ sub found h.
    some_elim (first_safe sub) _ (Moves s (DeadDone n ordinal) reply t) h.1 (λ d first is.
    stays_as s (DeadDone n ordinal) reply (λ _. refl) (λ _. (refl, refl)) t _ is (forgotten_stay n (d.position ∷ []) s.members) refl refl
    (shrinks_changed n (moving d) s.subscriptions (λ _. refl) (λ sub _. part_retained sub.pending (λ p. not (is_one_of (d.position ∷ []) p))))))

-- ---- every step

refused_sends : (event : Event) (fault : Fault) → SendsNone event (Refused fault)
refused_sends (Dispatch n now) fault c = refl
refused_sends event fault c = refl

refused_joins : (event : Event) (fault : Fault) → JoinsNone event (Refused fault)
refused_joins (Subscribe n kind level (Credit left) ack_timeout nack_delay max_redeliver dead_topic initial ranges) fault c = (refl, refl)
refused_joins (Subscribe n kind level (Window size) ack_timeout nack_delay max_redeliver dead_topic initial ranges) fault c = (refl, refl)
refused_joins event fault c = (refl, refl)

pub moves : (s : State) (event : Event) (reply : Reply) (t : State) → Answers s event reply t → IsKept s → Moves s event reply t
moves s event (Refused NoMemory) t h kept = unmoved s event (Refused NoMemory) (refused_sends event NoMemory) (refused_joins event NoMemory) t h.2
moves s event (Refused fault) t h kept = unmoved s event (Refused fault) (refused_sends event fault) (refused_joins event fault) t h.1
moves s event reply t h kept = takes_moves s event reply t h.0 h.1 kept
