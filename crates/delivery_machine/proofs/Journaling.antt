-- What each step tells a journal: whether a snapshot has changed, and who is attached.
use Rattle.std.proofs.Common.{◌≡◌, ℕ, List, [], ◌∷◌, map, Some, None, Option, Bool, true, false, cond, refl, ap, ◌∙◌, sym, subst₂, true≢false}
use Rattle.std.proofs.lemmas.List.{map-append}
use Rattle.std.specs.Prelude.{◌==◌, if◌then◌else◌, ℤ, ◌+◌}
use Rattle.std.specs.List.{find}
use Rattle.std.specs.Option.{option_map_or}
use Rattle.position_core.specs.declared.position.Position.{Position}
use Rattle.position_core.specs.declared.message.Entry.{Entry}
use Rattle.position_core.specs.declared.body.Content.{Content}
use Rattle.position_core.specs.declared.kind.Kind.{Kind}
use Rattle.position_core.specs.declared.fault.Fault.{Fault}
use Rattle.position_core.specs.declared.ranges.HashRange.{HashRange}
use Rattle.delivery_machine.specs.State.{State, Producer, Member, Subscription}
use Rattle.delivery_machine.specs.State as state
use Rattle.delivery_machine.specs.Words.{changed, removed, is_named, is_member, is_at, is_producer, emptied, emptied_at, active_at, next_position}
use Rattle.delivery_machine.specs.Refusals.{is_duplicate}
use Rattle.delivery_machine.specs.Producing.{had, storing, storing_below, with_message, message_of}
use Rattle.delivery_machine.specs.Joining.{releasing_all, all_released, is_taken_over, taken_over, leaving, permitted, without_member, with_member, Subscribes}
use Rattle.delivery_machine.specs.Acknowledging.{forgetting, without, Acks, positions_up_to}
use Rattle.delivery_machine.specs.Delivering.{holding, given, due_after, Dispatches}
use Rattle.delivery_machine.specs.Ticking.{Ticks, pending_positions}
use Rattle.delivery_machine.specs.Dying.{dying_at, first_safe, next_letter}
use Rattle.delivery_machine.specs.Trimming.{Trims}
use Rattle.delivery_machine.specs.Run.{Step, Takes}
use Rattle.delivery_machine.specs.Snapshot.{KeptSubscription, Snapshot, kept_of, snapshot_of}
use Rattle.delivery_machine.specs.Journals.{is_kept_once_done, changes_snapshot, producers_in, consumers_in, producers_noted, consumers_noted}
use Rattle.delivery_machine.specs.declared.event.Initial.{Initial}
use Rattle.delivery_machine.specs.declared.event.Event.{Event}
use Rattle.delivery_machine.specs.declared.event.Event.TheVariants.{AddProducer, DropProducer, Publish, Stored, StoredTo, Progress, Subscribe, Leave, Permit, Ack, AckUpTo, Nack, Tick, Seek, SeekTime, Skip, DropSubscription, Trim, SetRetention, Dispatch, Collect, DeadNext, DeadDone}
use Rattle.delivery_machine.specs.declared.event.Event.TheVariants as event
use Rattle.delivery_machine.specs.declared.reply.Reply.{Reply}
use Rattle.delivery_machine.specs.declared.reply.Reply.TheVariants.{Published, Duplicate, Sent, Idle, Quiet, Rewound, Released, Died, Done, Subscribed, Dead, NoDead, Trimmed, Untrimmed, Refused}
use Rattle.delivery_machine.proofs.Firsts.{some_elim}
use Rattle.delivery_machine.proofs.Keyed.{keys_changed, keys_mapped}

-- ---- lists

module _ {A B : Type 0} (f : A → B) where
  seen_removed : (p : B → Bool) (xs : List A) → map f (removed (λ x. p (f x)) xs) ≡ removed p (map f xs)
  seen_removed p [] = refl
  seen_removed p (x ∷ xs) = by (p (f x)) (seen_removed p xs)
    where
      by : (b : Bool) → map f (removed (λ x. p (f x)) xs) ≡ removed p (map f xs) → map f (cond b xs (x ∷ removed (λ x. p (f x)) xs)) ≡ cond b (map f xs) (f x ∷ removed p (map f xs))
      by true rest = refl
      by false rest = ap (λ ys. f x ∷ ys) rest

abbrev number : Member → ℕ
number m = m.number

number_if : (b : Bool) (m n : Member) → n.number ≡ m.number → (cond b n m).number ≡ m.number
number_if true m n same = same
number_if false m n same = refl

numbers_forgotten : (name : List ℕ) (positions : List Position) (members : List Member) → map number (map (forgetting name positions) members) ≡ map number members
numbers_forgotten name positions = keys_mapped number (forgetting name positions) (λ m. number_if (is_at name m) m (record m { out = without positions m.out }) refl)

numbers_emptied : (name : List ℕ) (members : List Member) → map number (map (emptied_at name) members) ≡ map number members
numbers_emptied name = keys_mapped number (emptied_at name) (λ m. number_if (is_at name m) m (emptied m) refl)

kept_changed : (name : List ℕ) (f : Subscription → Subscription) → ((sub : Subscription) → kept_of (f sub) ≡ kept_of sub) → (subs : List Subscription) → map kept_of (changed (is_named name) f subs) ≡ map kept_of subs
kept_changed name f same = keys_changed kept_of (is_named name) f same

-- ---- steps

pub record IsTold (s : State) (event : Event) (reply : Reply) (t : State) : Type 0 where
  pub snapshot : changes_snapshot event reply ≡ false → snapshot_of t ≡ snapshot_of s
  pub producers : producers_in t ≡ producers_noted (producers_in s) event reply
  pub consumers : consumers_in t ≡ consumers_noted (consumers_in s) event reply

-- the reply and the new state are known
told_as : (s : State) (event : Event) (r q : Reply) (t u : State) → r ≡ q → t ≡ u → IsTold s event q u → IsTold s event r t
told_as s event r q t u reply is told = subst₂ (IsTold s event) (sym reply) (sym is) told

-- the snapshot of a state that only lists other subscriptions
abbrev snapshot_over : State → List KeptSubscription → Snapshot
snapshot_over s kept = record (snapshot_of s) { subscriptions = kept }

told_over : (s : State) (event : Event) (reply : Reply) (name : List ℕ) (before : Option ℕ) (t : State) → IsTold s event reply t → IsTold s event reply (taken_over name before t)
told_over s event reply name before t told = by (is_taken_over name before t)
  where
    by : (b : Bool) → IsTold s event reply (if b then all_released name t else t)
    by true = record {
      snapshot = λ stays. ap (snapshot_over t) (kept_changed name releasing_all (λ _. refl) t.subscriptions) ∙ told.snapshot stays;
      producers = told.producers;
      consumers = numbers_emptied name t.members ∙ told.consumers;
    }
    by false = told

told_acks : (s : State) (event : Event) (consumer : ℕ) (positions : List Position) (r : Reply) (t : State) → is_kept_once_done event ≡ true
    → producers_noted (producers_in s) event Done ≡ producers_in s → consumers_noted (consumers_in s) event Done ≡ consumers_in s → Acks s consumer positions r t → IsTold s event r t
told_acks s event consumer positions r t kept nobody none h =
    some_elim (find (is_member consumer) s.members) _ (IsTold s event r t) h.1 (λ m found is.
    told_as s event r Done t _ h.0 is (record {
      snapshot = λ stays. absurd (true≢false (sym kept ∙ stays));
      producers = sym nobody;
      consumers = numbers_forgotten m.subscription positions s.members ∙ sym none;
    }))

told_published : (s : State) (producer : ℕ) (sequence : ℤ) (body : Content) (now : ℕ) (e : Entry) (r : Reply) (t : State) (duplicate : Bool)
    → r ≡ (if duplicate then Duplicate (had s) else Published (next_position s) (had s + 1)) → t ≡ (if duplicate then s else with_message s e)
    → IsTold s (Publish producer sequence body now) r t
told_published s producer sequence body now e r t true reply is = told_as s (Publish producer sequence body now) r _ t _ reply is (record { snapshot = λ _. refl; producers = refl; consumers = refl })
told_published s producer sequence body now e r t false reply is =
    told_as s (Publish producer sequence body now) r _ t _ reply is (record { snapshot = λ stays. absurd (true≢false stays); producers = refl; consumers = refl })

told_ticks : (s : State) (name : List ℕ) (now : ℕ) (sub : Subscription) (r : Reply) (t : State) → Ticks s name now sub r t → IsTold s (Tick name now) r t
told_ticks s name now sub Quiet t h = told_as s (Tick name now) Quiet Quiet t s refl h.1 (record { snapshot = λ _. refl; producers = refl; consumers = refl })
told_ticks s name now sub (Rewound count) t h =
    told_as s (Tick name now) (Rewound count) (Rewound count) t _ refl h.3 (record {
      snapshot = λ stays. absurd (true≢false stays);
      producers = refl;
      consumers = numbers_forgotten name (pending_positions s sub) s.members;
    })
told_ticks s name now sub (Released p) t h =
    told_as s (Tick name now) (Released p) (Released p) t _ refl h.3 (record {
      snapshot = λ stays. absurd (true≢false stays);
      producers = refl;
      consumers = numbers_forgotten name (p ∷ []) s.members;
    })
told_ticks s name now sub (Died p ordinal) t h =
    some_elim (dying_at s sub p) _ (IsTold s (Tick name now) (Died p ordinal) t) h.3 (λ m found is.
    told_as s (Tick name now) (Died p ordinal) (Died p ordinal) t _ refl is (record {
      snapshot = λ stays. absurd (true≢false stays);
      producers = refl;
      consumers = numbers_forgotten name (p ∷ []) s.members;
    }))
told_ticks s name now sub reply t h = absurd h

told_sent : (s : State) (name : List ℕ) (now : ℕ) (sub : Subscription) (r : Reply) (t : State) → Dispatches s name now sub r t → IsTold s (Dispatch name now) r t
told_sent s name now sub (Sent consumer position count) t h =
    told_as s (Dispatch name now) (Sent consumer position count) (Sent consumer position count) t _ refl h.6 (record {
      snapshot = λ _. ap (snapshot_over s) (kept_changed name (holding h.0.position (record { consumer = h.1.number; due = due_after now h.1.ack_timeout })) (λ _. refl) s.subscriptions);
      producers = refl;
      consumers = keys_changed number (is_member h.1.number) (given _) (λ _. refl) s.members;
    })
told_sent s name now sub Idle t h = told_as s (Dispatch name now) Idle Idle t s refl h.1 (record { snapshot = λ _. refl; producers = refl; consumers = refl })
told_sent s name now sub reply t h = absurd h

told_shown : (s : State) (name : List ℕ) (r : Reply) (t : State) (o : Option (state.DeadLetter × Entry)) → r ≡ option_map_or (λ p. Dead p.1 p.0.target p.0.ordinal) o NoDead → t ≡ s → IsTold s (DeadNext name) r t
told_shown s name r t None reply is = told_as s (DeadNext name) r _ t s reply is (record { snapshot = λ _. refl; producers = refl; consumers = refl })
told_shown s name r t (Some shown) reply is = told_as s (DeadNext name) r _ t s reply is (record { snapshot = λ _. refl; producers = refl; consumers = refl })

told_joined : (s : State) (event : Event) (kind : Kind) (ranges : Option (List HashRange)) (initial : Initial) (m : Member) (r : Reply) (t : State) → Subscribes s kind ranges initial m r t → IsTold s event r t
told_joined s event kind ranges initial m r t h =
    told_as s event r (Subscribed m.number) t _ h.0 h.1
    (told_over s event (Subscribed m.number) m.subscription (active_at s m.subscription) (with_member s kind ranges initial m)
    (record { snapshot = λ (stays : true ≡ false). absurd (true≢false stays); producers = refl; consumers = map-append number s.members (m ∷ []) }))

told_trimmed : (s : State) (keep before most : ℕ) (r : Reply) (t : State) → Trims s keep before most r t → IsTold s (Trim keep before most) r t
told_trimmed s keep before most (Trimmed all) t h =
    told_as s (Trim keep before most) (Trimmed all) (Trimmed all) t _ refl h.2 (record { snapshot = λ stays. absurd (true≢false stays); producers = refl; consumers = refl })
told_trimmed s keep before most Untrimmed t h =
    told_as s (Trim keep before most) Untrimmed Untrimmed t s refl h.1 (record { snapshot = λ _. refl; producers = refl; consumers = refl })
told_trimmed s keep before most r t h = absurd h

told_taken : (s : State) (e : Event) (r : Reply) (t : State) → Takes s e r t → IsTold s e r t
told_taken s (AddProducer name base) r t h =
    told_as s (AddProducer name base) r _ t _ h.3.0 h.3.1 (record { snapshot = λ _. refl; producers = map-append (λ (p : Producer). p.number) s.producers _; consumers = refl })
told_taken s (DropProducer producer) r t h =
    told_as s (DropProducer producer) r Done t _ h.0 h.1 (record { snapshot = λ _. refl; producers = seen_removed (λ (p : Producer). p.number) (λ n. n == producer) s.producers; consumers = refl })
told_taken s (Publish producer sequence body now) r t h =
    some_elim (find (is_producer producer) s.producers) _ (IsTold s (Publish producer sequence body now) r t) h (λ p found h.
    told_published s producer sequence body now (message_of s p sequence body now) r t (is_duplicate s p sequence) h.0 h.1)
told_taken s Stored r t h =
    told_as s Stored r _ t _ h.0 h.1 (record { snapshot = λ _. ap (snapshot_over s) (keys_mapped kept_of storing (λ _. refl) s.subscriptions); producers = refl; consumers = refl })
told_taken s (StoredTo count ordinal) r t h =
    told_as s (StoredTo count ordinal) r _ t _ h.0 h.1 (record { snapshot = λ _. ap (snapshot_over s) (keys_mapped kept_of (storing_below ordinal) (λ _. refl) s.subscriptions); producers = refl; consumers = refl })
told_taken s Progress r t h = told_as s Progress r _ t s h.0 h.1 (record { snapshot = λ _. refl; producers = refl; consumers = refl })
told_taken s (Subscribe name kind level flow ack_timeout nack_delay max_redeliver dead_topic initial ranges) r t h =
    told_joined s (Subscribe name kind level flow ack_timeout nack_delay max_redeliver dead_topic initial ranges) kind ranges initial _ r t h
told_taken s (Leave consumer) r t h =
    some_elim (find (is_member consumer) s.members) _ (IsTold s (Leave consumer) r t) h.1 (λ m found is.
    told_as s (Leave consumer) r Done t _ h.0 is
    (told_over s (Leave consumer) Done m.subscription (active_at s m.subscription) (without_member s consumer m.subscription) (record {
      snapshot = λ _. ap (snapshot_over s) (kept_changed m.subscription (leaving consumer) (λ _. refl) s.subscriptions);
      producers = refl;
      consumers = seen_removed number (λ n. n == consumer) s.members;
    })))
told_taken s (Permit consumer permits) r t h =
    told_as s (Permit consumer permits) r Done t _ h.0 h.1 (record { snapshot = λ _. refl; producers = refl; consumers = keys_changed number (is_member consumer) (permitted permits) (λ _. refl) s.members })
told_taken s (Ack consumer position) r t h = told_acks s (Ack consumer position) consumer (position ∷ []) r t refl refl refl h
told_taken s (AckUpTo consumer position) r t h = told_acks s (AckUpTo consumer position) consumer (positions_up_to position s.log) r t refl refl refl h
told_taken s (Nack consumer position now) r t h =
    some_elim (find (is_member consumer) s.members) _ (IsTold s (Nack consumer position now) r t) h.1 (λ m found is.
    told_as s (Nack consumer position now) r Done t _ h.0 is (record {
      snapshot = λ _. ap (snapshot_over s) (kept_changed m.subscription (holding position _) (λ _. refl) s.subscriptions);
      producers = refl;
      consumers = refl;
    }))
told_taken s (Tick name now) r t h = some_elim (find (is_named name) s.subscriptions) _ (IsTold s (Tick name now) r t) h (λ sub found h. told_ticks s name now sub r t h)
told_taken s (Seek name target) r t h =
    told_as s (Seek name target) r Done t _ h.0 h.1 (record { snapshot = λ stays. absurd (true≢false stays); producers = refl; consumers = numbers_emptied name s.members })
told_taken s (SeekTime name time) r t h =
    told_as s (SeekTime name time) r Done t _ h.0 h.1 (record { snapshot = λ stays. absurd (true≢false stays); producers = refl; consumers = numbers_emptied name s.members })
told_taken s (Skip name count) r t h =
    some_elim (find (is_named name) s.subscriptions) _ (IsTold s (Skip name count) r t) h (λ sub found h.
    told_as s (Skip name count) r Done t _ h.0 h.1 (record { snapshot = λ stays. absurd (true≢false stays); producers = refl; consumers = numbers_forgotten name _ s.members }))
told_taken s (DropSubscription name) r t h =
    told_as s (DropSubscription name) r Done t _ h.0 h.1 (record { snapshot = λ stays. absurd (true≢false stays); producers = refl; consumers = refl })
told_taken s (event.Stats name) r t h =
    some_elim (find (is_named name) s.subscriptions) _ (IsTold s (event.Stats name) r t) h (λ sub found h.
    told_as s (event.Stats name) r _ t s h.0 h.1 (record { snapshot = λ _. refl; producers = refl; consumers = refl }))
told_taken s (Trim keep before most) r t h = told_trimmed s keep before most r t h
told_taken s (SetRetention retention) r t h =
    told_as s (SetRetention retention) r Done t _ h.0 h.1 (record { snapshot = λ stays. absurd (true≢false stays); producers = refl; consumers = refl })
told_taken s (Dispatch name now) r t h = some_elim (find (is_named name) s.subscriptions) _ (IsTold s (Dispatch name now) r t) h (λ sub found h. told_sent s name now sub r t h)
told_taken s (Collect consumer) r t h =
    told_as s (Collect consumer) r _ t _ h.0 h.1 (record { snapshot = λ _. refl; producers = refl; consumers = keys_changed number (is_member consumer) emptied (λ _. refl) s.members })
told_taken s (DeadNext name) r t h = some_elim (find (is_named name) s.subscriptions) _ (IsTold s (DeadNext name) r t) h (λ sub found h. told_shown s name r t (next_letter s sub) h.0 h.1)
told_taken s (DeadDone name ordinal) r t h =
    some_elim (find (is_named name) s.subscriptions) _ (IsTold s (DeadDone name ordinal) r t) h (λ sub found h.
    some_elim (first_safe sub) _ (IsTold s (DeadDone name ordinal) r t) h.1 (λ d first is.
    told_as s (DeadDone name ordinal) r Done t _ h.0 is (record { snapshot = λ stays. absurd (true≢false stays); producers = refl; consumers = numbers_forgotten name (d.position ∷ []) s.members })))

told_refused : (s : State) (e : Event) (fault : Fault) (t : State) → t ≡ s → IsTold s e (Refused fault) t
told_refused s e fault t same = told_as s e (Refused fault) (Refused fault) t s refl same (record { snapshot = λ _. refl; producers = refl; consumers = refl })

-- ---- the laws

pub refused_stays : (s : State) (e : Event) (fault : Fault) (t : State) → Step s e (Refused fault) t → t ≡ s
refused_stays s e fault t h = h.1

pub told : (s : State) (e : Event) (r : Reply) (t : State) → Step s e r t → IsTold s e r t
told s e (Refused fault) t h = told_refused s e fault t h.1
told s e reply t h = told_taken s e reply t h.1

-- what is kept of a state changes only where a line says so
pub snapshot_stays : (s : State) (e : Event) (r : Reply) (t : State) → Step s e r t → changes_snapshot e r ≡ false → snapshot_of t ≡ snapshot_of s
snapshot_stays s e r t step = (told s e r t step).snapshot

pub producers_are : (s : State) (e : Event) (r : Reply) (t : State) → Step s e r t → producers_in t ≡ producers_noted (producers_in s) e r
producers_are s e r t step = (told s e r t step).producers

pub consumers_are : (s : State) (e : Event) (r : Reply) (t : State) → Step s e r t → consumers_in t ≡ consumers_noted (consumers_in s) e r
consumers_are s e r t step = (told s e r t step).consumers
