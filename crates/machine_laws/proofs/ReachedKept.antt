-- Each step keeps what every reached state keeps, and so does each run.
use Rattle.std.proofs.Common.{◌≡◌, ℕ, List, [], ◌∷◌, map, Some, None, Bool, true, false, refl, ap, ◌∙◌, sym, subst, inl, inr, cond, ◌+◌}
use Rattle.std.specs.Prelude.{if◌then◌else◌}
use Rattle.std.specs.List.{AllByRecursion, find}
use Rattle.std.specs.List.Sorted.{IsStrictlySortedBy}
use Rattle.position_core.specs.declared.position.Position.{Position}
use Rattle.position_core.specs.declared.topic_name.TopicName.{TopicName}
use Rattle.position_core.specs.declared.message.Entry.{Entry}
use Rattle.position_core.specs.declared.fault.Fault.TheVariants.{TopicFull}
use Rattle.position_core.specs.Position.{position_cmp}
use Rattle.delivery_machine.specs.State.{State, Subscription, fresh}
use Rattle.delivery_machine.specs.Words.{is_named, is_member, is_producer, emptied, active_at, next_position}
use Rattle.delivery_machine.specs.Refusals.{refusal_of, nacking_refused, publishing_refused, is_full, is_duplicate}
use Rattle.delivery_machine.specs.Producing.{with_message, message_of}
use Rattle.delivery_machine.specs.Joining.{permitted, without_member}
use Rattle.delivery_machine.specs.Acknowledging.{Acks, positions_up_to}
use Rattle.delivery_machine.specs.Delivering.{Dispatches}
use Rattle.delivery_machine.specs.Ticking.{Ticks, pending_positions}
use Rattle.delivery_machine.specs.Seeking.{length_before, length_before_time, first_live}
use Rattle.delivery_machine.specs.Dying.{dying_at, first_safe}
use Rattle.delivery_machine.specs.Trimming.{Trims}
use Rattle.delivery_machine.specs.Run.{Run, Answers, Takes}
use Rattle.delivery_machine.specs.Snapshot.{Snapshot, KeptSubscription, restarted, subscription_from}
use Rattle.delivery_machine.specs.WellFormed.{IsSound}
use Rattle.delivery_machine.specs.Laws.{IsBeginning}
use Rattle.delivery_machine.specs.declared.event.Event.{Event}
use Rattle.delivery_machine.specs.declared.event.Event.TheVariants.{AddProducer, DropProducer, Publish, Stored, StoredTo, Progress, Subscribe, Leave, Permit, Ack, AckUpTo, Nack, Tick, Seek, SeekTime, Skip, DropSubscription, Stats, Trim, SetRetention, Dispatch, Collect, DeadNext, DeadDone}
use Rattle.delivery_machine.specs.declared.reply.Reply.{Reply}
use Rattle.delivery_machine.specs.declared.reply.Reply.TheVariants.{Sent, Idle, Quiet, Rewound, Released, Died, Trimmed, Untrimmed}
use Rattle.delivery_machine.proofs.RunSteps.{split, Run-keeps}
use Rattle.delivery_machine.proofs.Firsts.{some_elim}
use Rattle.delivery_machine.proofs.Rising.{rising_fresh, rising_restarted}
use Rattle.delivery_machine.proofs.Behind.{IsIdle, IsBehindIdle, AllBehindIdle}
use Rattle.delivery_machine.proofs.Tended.{tended_empty}
use Rattle.delivery_machine.proofs.Tending.{none_pending}
use Rattle.delivery_machine.proofs.Trimmed.{are_going, kept_going}
use Rattle.delivery_machine.proofs.Kept.{IsKept, not_refused, kept_message, kept_acknowledged, kept_redelivered, kept_taken_over, kept_nacked, kept_members, kept_joined, kept_left, kept_sent, kept_died, kept_moved, kept_sought, kept_stored, kept_stored_to, kept_dropped}

-- the new state is known
settled : (t u : State) → t ≡ u → IsKept u → IsKept t
settled t u is kept = subst IsKept (sym is) kept

publish_keeps : (s : State) (e : Entry) (t : State) (duplicate : Bool) → (if duplicate then None else if is_full s then Some TopicFull else None) ≡ None → e.position ≡ next_position s
    → t ≡ (if duplicate then s else with_message s e) → IsKept s → IsKept t
publish_keeps s e t true allowed at is kept = settled t s is kept
publish_keeps s e t false allowed at is kept = settled t (with_message s e) is (kept_message s e at (not_refused (is_full s) TopicFull None allowed) kept)

acks_keeps : (s : State) (consumer : ℕ) (positions : List Position) (reply : Reply) (t : State) → Acks s consumer positions reply t → IsKept s → IsKept t
acks_keeps s consumer positions reply t h kept =
    some_elim (find (is_member consumer) s.members) _ (IsKept t) h.1 (λ m found is. settled t _ is (kept_acknowledged s m.subscription positions kept))

tick_keeps : (s : State) (name : List ℕ) (now : ℕ) (sub : Subscription) (reply : Reply) (t : State) → Ticks s name now sub reply t → IsKept s → IsKept t
tick_keeps s name now sub Quiet t h kept = settled t s h.1 kept
tick_keeps s name now sub (Rewound count) t h kept = settled t _ h.3 (kept_redelivered s name (pending_positions s sub) kept)
tick_keeps s name now sub (Released position) t h kept = settled t _ h.3 (kept_redelivered s name (position ∷ []) kept)
tick_keeps s name now sub (Died position ordinal) t h kept =
    some_elim (dying_at s sub position) _ (IsKept t) h.3 (λ m found is. settled t _ is (kept_died s name position m kept))
tick_keeps s name now sub reply t h kept = absurd h

dispatch_keeps : (s : State) (name : List ℕ) (now : ℕ) (sub : Subscription) (reply : Reply) (t : State) → find (is_named name) s.subscriptions ≡ Some sub → Dispatches s name now sub reply t → IsKept s → IsKept t
dispatch_keeps s name now sub (Sent consumer position count) t found h kept = settled t _ h.6 (kept_sent s name sub h.0 h.1 now found h.2 kept)
dispatch_keeps s name now sub Idle t found h kept = settled t s h.1 kept
dispatch_keeps s name now sub reply t found h kept = absurd h

trims_keeps : (s : State) (keep before most : ℕ) (reply : Reply) (t : State) → Trims s keep before most reply t → IsKept s → IsKept t
trims_keeps s keep before most (Trimmed all) t h kept = settled t _ h.2 (kept_going s _ (are_going s keep before most h.0) kept)
trims_keeps s keep before most Untrimmed t h kept = settled t s h.1 kept
trims_keeps s keep before most reply t h kept = absurd h

takes_keeps : (s : State) (event : Event) (reply : Reply) (t : State) → refusal_of s event ≡ None → Takes s event reply t → IsKept s → IsKept t
takes_keeps s (AddProducer name base) reply t allowed h kept = settled t _ h.3.1 (record { rising = kept.rising; tended = kept.tended })
takes_keeps s (DropProducer producer) reply t allowed h kept = settled t _ h.1 (record { rising = kept.rising; tended = kept.tended })
takes_keeps s (Publish producer sequence body now) reply t allowed h kept =
    some_elim (find (is_producer producer) s.producers) _ (IsKept t) h (λ p found h.
    publish_keeps s (message_of s p sequence body now) t (is_duplicate s p sequence)
    (sym (ap (publishing_refused s sequence) found) ∙ allowed) refl h.1 kept)
takes_keeps s Stored reply t allowed h kept = settled t _ h.1 (kept_stored s kept)
takes_keeps s (StoredTo count ordinal) reply t allowed h kept = settled t _ h.1 (kept_stored_to s count ordinal kept)
takes_keeps s Progress reply t allowed h kept = settled t s h.1 kept
takes_keeps s (Subscribe name kind level flow ack_timeout nack_delay max_redeliver dead_topic initial ranges) reply t allowed h kept =
    settled t _ h.1 (kept_taken_over _ name (active_at s name) (kept_joined s kind ranges initial _ allowed kept))
takes_keeps s (Leave consumer) reply t allowed h kept =
    some_elim (find (is_member consumer) s.members) _ (IsKept t) h.1 (λ m found is.
    settled t _ is (kept_taken_over (without_member s consumer m.subscription) m.subscription (active_at s m.subscription) (kept_left s consumer m found kept)))
takes_keeps s (Permit consumer permits) reply t allowed h kept = settled t _ h.1 (kept_members s (is_member consumer) (permitted permits) (λ _ _ _. refl) kept)
takes_keeps s (Ack consumer position) reply t allowed h kept = acks_keeps s consumer (position ∷ []) reply t h kept
takes_keeps s (AckUpTo consumer position) reply t allowed h kept = acks_keeps s consumer (positions_up_to position s.log) reply t h kept
takes_keeps s (Nack consumer position now) reply t allowed h kept =
    some_elim (find (is_member consumer) s.members) _ (IsKept t) h.1 (λ m found is.
    settled t _ is (kept_nacked s m consumer position (Some (now + m.nack_delay)) (sym (ap (nacking_refused s consumer position) found) ∙ allowed) kept))
takes_keeps s (Tick name now) reply t allowed h kept =
    some_elim (find (is_named name) s.subscriptions) _ (IsKept t) h (λ sub found h. tick_keeps s name now sub reply t h kept)
takes_keeps s (Seek name target) reply t allowed h kept = settled t _ h.1 (kept_sought s name (length_before s target) kept)
takes_keeps s (SeekTime name time) reply t allowed h kept = settled t _ h.1 (kept_sought s name (length_before_time s time) kept)
takes_keeps s (Skip name count) reply t allowed h kept =
    some_elim (find (is_named name) s.subscriptions) _ (IsKept t) h (λ sub found h. settled t _ h.1 (kept_acknowledged s name (first_live s sub count) kept))
takes_keeps s (DropSubscription name) reply t allowed h kept = settled t _ h.1 (kept_dropped s name kept)
takes_keeps s (Stats name) reply t allowed h kept = some_elim (find (is_named name) s.subscriptions) _ (IsKept t) h (λ sub found h. settled t s h.1 kept)
takes_keeps s (Trim keep before most) reply t allowed h kept = trims_keeps s keep before most reply t h kept
takes_keeps s (SetRetention retention) reply t allowed h kept = settled t _ h.1 (record { rising = kept.rising; tended = kept.tended })
takes_keeps s (Dispatch name now) reply t allowed h kept =
    some_elim (find (is_named name) s.subscriptions) _ (IsKept t) h (λ sub found h. dispatch_keeps s name now sub reply t found h kept)
takes_keeps s (Collect consumer) reply t allowed h kept = settled t _ h.1 (kept_members s (is_member consumer) emptied (λ _ _ _. refl) kept)
takes_keeps s (DeadNext name) reply t allowed h kept = some_elim (find (is_named name) s.subscriptions) _ (IsKept t) h (λ sub found h. settled t s h.1 kept)
takes_keeps s (DeadDone name ordinal) reply t allowed h kept =
    some_elim (find (is_named name) s.subscriptions) _ (IsKept t) h (λ sub found h.
    some_elim (first_safe sub) _ (IsKept t) h.1 (λ d first is. settled t _ is (kept_moved s name d kept)))

pub step_keeps : (s : State) (event : Event) (reply : Reply) (t : State) → Answers s event reply t → IsKept s → IsKept t
step_keeps s event reply t h kept =
    elim (split s event reply t h) [
      | inl same ↦ settled t s same kept
      | inr taken ↦ takes_keeps s event reply t taken.0 taken.1 kept
    ]

-- ---- where a run begins

-- what a snapshot keeps of subscriptions is idle
found_idle : (kept : List KeptSubscription) (name : List ℕ) (sub : Subscription) → find (is_named name) (map subscription_from kept) ≡ Some sub → IsIdle sub
found_idle [] name sub found = cc
found_idle (one ∷ kept) name sub found = by (is_named name (subscription_from one)) found (found_idle kept name sub)
  where
    by : (b : Bool) → cond b (Some (subscription_from one)) (find (is_named name) (map subscription_from kept)) ≡ Some sub → (find (is_named name) (map subscription_from kept) ≡ Some sub → IsIdle sub) → IsIdle sub
    by true is rest =
        let same : subscription_from one ≡ sub = cc in
        subst IsIdle same none_pending
    by false is rest = rest is

all_idle : (kept : List KeptSubscription) → AllBehindIdle (map subscription_from kept)
all_idle [] = tt
all_idle (one ∷ kept) = (each kept, all_idle kept)
  where
    each : (others : List KeptSubscription) → AllByRecursion (IsBehindIdle (subscription_from one)) (map subscription_from others)
    each [] = tt
    each (other ∷ others) = (λ _. none_pending, each others)

kept_fresh : (name : TopicName) (ledger_size : ℕ) → IsKept (fresh name ledger_size)
kept_fresh name ledger_size = record { rising = rising_fresh; tended = record { first = λ name sub found. cc; behind = tt } }

kept_restarted : (kept : Snapshot) → IsSound kept → IsKept (restarted kept)
kept_restarted kept sound = record { rising = rising_restarted kept sound; tended = record { first = λ name sub found. tended_empty kept.log [] sub.name sub.kind sub.pending (found_idle kept.subscriptions name sub found); behind = all_idle kept.subscriptions } }

pub beginning_kept : (s : State) → IsBeginning s → IsKept s
beginning_kept s begins = elim begins [
  | inl new ↦ settled s _ new.2 (kept_fresh new.0 new.1)
  | inr old ↦ settled s _ old.2 (kept_restarted old.0 old.1)
]

-- every reached state keeps it
pub reached_kept : (s : State) (events : List Event) (replies : List Reply) (t : State) → IsBeginning s → Run s events replies t → IsKept t
reached_kept s events replies t begins run = Run-keeps IsKept step_keeps s events replies t run (beginning_kept s begins)

-- positions rise in every reached state
pub rises : (s : State) (events : List Event) (replies : List Reply) (t : State) → IsBeginning s → Run s events replies t → IsStrictlySortedBy position_cmp (map (λ e. e.position) t.log)
rises s events replies t begins run = (reached_kept s events replies t begins run).rising.sorted
