-- Each step within limits keeps them, and so does each run.
use Rattle.std.proofs.Common.{◌≡◌, ℕ, ◌+◌, List, [], ◌∷◌, Some, None, refl, ap, ◌∙◌, sym, subst, inl, inr, max, length}
use Rattle.std.specs.Prelude.{nat_lt}
use Rattle.std.specs.List.{AllByRecursion, count_by, find}
use Rattle.std.proofs.lemmas.List.Elements.{All-contains}
use Rattle.position_core.specs.declared.position.Position.{Position}
use Rattle.position_core.specs.Kind.{is_in_order}
use Rattle.delivery_machine.specs.State.{State, Subscription}
use Rattle.delivery_machine.specs.Words.{active_at, emptied, is_member, is_named, is_producer}
use Rattle.delivery_machine.specs.Refusals.{is_duplicate, publishing_refused, refusal_of}
use Rattle.delivery_machine.specs.Acknowledging.{Acks, positions_up_to}
use Rattle.delivery_machine.specs.Delivering.{Dispatches, due_after, given}
use Rattle.delivery_machine.specs.Dying.{dying_at, first_safe}
use Rattle.delivery_machine.specs.Joining.{permitted, without_member}
use Rattle.delivery_machine.specs.Producing.{durable_to}
use Rattle.delivery_machine.specs.Seeking.{first_live, length_before, length_before_time}
use Rattle.delivery_machine.specs.Ticking.{Ticks, pending_positions}
use Rattle.delivery_machine.specs.Trimming.{Trims, going}
use Rattle.delivery_machine.specs.Run.{Answers, Run, Takes}
use Rattle.delivery_machine.specs.Laws.{IsReached}
use Rattle.delivery_machine.specs.declared.event.Event.{Event}
use Rattle.delivery_machine.specs.declared.event.Event.TheVariants.{AddProducer, DropProducer, Publish, Stored, StoredTo, Progress, Subscribe, Leave, Permit, Ack, AckUpTo, Nack, Tick, Seek, SeekTime, Skip, DropSubscription, Stats, Trim, SetRetention, Dispatch, Collect, DeadNext, DeadDone}
use Rattle.delivery_machine.specs.declared.reply.Reply.{Reply}
use Rattle.delivery_machine.specs.declared.reply.Reply.TheVariants.{Sent, Idle, Quiet, Rewound, Released, Died, Trimmed, Untrimmed}
use Rattle.delivery_machine.proofs.Deciding.{turned}
use Rattle.delivery_machine.proofs.Firsts.{found_contained, some_elim}
use Rattle.machine_laws.proofs.ReachedOn.{reached_step}
use Rattle.delivery_machine.proofs.RunSteps.{split}
use Rattle.machine_laws.proofs.WellReached.{IsAllKept, reached_all}
use Rattle.row_reading.specs.Limits.{IsWithinLimits}
use Rattle.row_reading.proofs.Limits.{IsProducerWithin, KeepsLimits}
use Rattle.row_reading.proofs.LimitsJoined.{dies_elsewhere, limits_joined, limits_left, may_join}
use Rattle.row_reading.proofs.LimitsKept.{limits_acknowledged, limits_died, limits_dropped, limits_held, limits_members, limits_moved, limits_nacked, limits_redelivered, limits_sought, limits_stored, limits_taken_over}
use Rattle.row_reading.proofs.LimitsPublished.{limits_connected, limits_disconnected, limits_published}
use Rattle.row_reading.proofs.LimitsTrimmed.{limits_retaining, limits_trimmed}

-- the new state is known
settled : (t u : State) → t ≡ u → KeepsLimits u → KeepsLimits t
settled t u is keeps = subst KeepsLimits (sym is) keeps

acks_within : (s : State) (consumer : ℕ) (positions : List Position) (reply : Reply) (t : State) → Acks s consumer positions reply t → KeepsLimits s → KeepsLimits t
acks_within s consumer positions reply t h keeps =
    some_elim (find (is_member consumer) s.members) _ (KeepsLimits t) h.1 (λ m found is. settled t _ is (limits_acknowledged s m.subscription positions keeps))

tick_within : (s : State) (name : List ℕ) (now : ℕ) (sub : Subscription) (reply : Reply) (t : State) → find (is_named name) s.subscriptions ≡ Some sub → Ticks s name now sub reply t → IsAllKept s → KeepsLimits s → KeepsLimits t
tick_within s name now sub Quiet t found h all keeps = settled t s h.1 keeps
tick_within s name now sub (Rewound count) t found h all keeps = settled t _ h.3 (limits_redelivered s name (pending_positions s sub) keeps)
tick_within s name now sub (Released position) t found h all keeps = settled t _ h.3 (limits_redelivered s name (position ∷ []) keeps)
tick_within s name now sub (Died position ordinal) t found h all keeps =
    some_elim (dying_at s sub position) _ (KeepsLimits t) h.3 (λ m dying is.
    settled t _ is (limits_died s name position m
    (dies_elsewhere s sub position m (turned (is_in_order sub.kind) h.0) dying (all.order.kept.tended.first name sub found) all.well.members keeps.seated.targets (keeps.seated.each name sub found)) keeps))
tick_within s name now sub reply t found h all keeps = absurd h

dispatch_within : (s : State) (name : List ℕ) (now : ℕ) (sub : Subscription) (reply : Reply) (t : State) → Dispatches s name now sub reply t → KeepsLimits s → KeepsLimits t
dispatch_within s name now sub (Sent consumer position count) t h keeps =
    settled t _ h.6 (limits_held s name h.0.position (record { consumer = h.1.number; due = due_after now h.1.ack_timeout }) (is_member h.1.number) (given _) (λ _. refl) keeps)
dispatch_within s name now sub Idle t h keeps = settled t s h.1 keeps
dispatch_within s name now sub reply t h keeps = absurd h

trim_within : (s : State) (keep before most : ℕ) (reply : Reply) (t : State) → Trims s keep before most reply t → KeepsLimits s → KeepsLimits t
trim_within s keep before most (Trimmed count) t h keeps = settled t _ h.2 (limits_trimmed s (going s keep before most) keeps)
trim_within s keep before most Untrimmed t h keeps = settled t s h.1 keeps
trim_within s keep before most reply t h keeps = absurd h

takes_within : (s : State) (event : Event) (reply : Reply) (t : State) → refusal_of s event ≡ None → Takes s event reply t → IsWithinLimits event → IsAllKept s → KeepsLimits s → KeepsLimits t
takes_within s (AddProducer name base) reply t allowed h within all keeps = settled t _ h.3.1 (limits_connected s name h.0 h.1 base allowed h.2 within.0 within.1 all.well.gone all.well.authors keeps)
takes_within s (DropProducer producer) reply t allowed h within all keeps = settled t _ h.1 (limits_disconnected s (is_producer producer) keeps)
takes_within s (Publish producer sequence body now) reply t allowed h within all keeps =
    some_elim (find (is_producer producer) s.producers) _ (KeepsLimits t) h (λ p found h.
    limits_published s p sequence body now t (is_duplicate s p sequence) refl (sym (ap (publishing_refused s sequence) found) ∙ allowed) h.1
    (All-contains IsProducerWithin s.producers p keeps.producers.each (found_contained (is_producer producer) s.producers p found)) within.0 within.1 keeps)
takes_within s Stored reply t allowed h within all keeps = settled t _ h.1 (limits_stored s (λ sub. length sub.dead) (length s.log) keeps)
takes_within s (StoredTo count ordinal) reply t allowed h within all keeps =
    settled t _ h.1 (limits_stored s (λ sub. max sub.safe (count_by (λ d. nat_lt d.ordinal ordinal) sub.dead)) (durable_to s count) keeps)
takes_within s Progress reply t allowed h within all keeps = settled t s h.1 keeps
takes_within s (Subscribe name kind level flow ack_timeout nack_delay max_redeliver dead_topic initial ranges) reply t allowed h within all keeps =
    settled t _ h.1 (limits_taken_over _ name (active_at s name) (limits_joined s kind _ (may_join s kind _ ranges allowed) ranges initial within.0 within.1 keeps))
takes_within s (Leave consumer) reply t allowed h within all keeps =
    some_elim (find (is_member consumer) s.members) _ (KeepsLimits t) h.1 (λ m found is.
    settled t _ is (limits_taken_over (without_member s consumer m.subscription) m.subscription (active_at s m.subscription) (limits_left s consumer m.subscription keeps)))
takes_within s (Permit consumer permits) reply t allowed h within all keeps = settled t _ h.1 (limits_members s (is_member consumer) (permitted permits) (λ _. refl) keeps)
takes_within s (Ack consumer position) reply t allowed h within all keeps = acks_within s consumer (position ∷ []) reply t h keeps
takes_within s (AckUpTo consumer position) reply t allowed h within all keeps = acks_within s consumer (positions_up_to position s.log) reply t h keeps
takes_within s (Nack consumer position now) reply t allowed h within all keeps =
    some_elim (find (is_member consumer) s.members) _ (KeepsLimits t) h.1 (λ m found is.
    settled t _ is (limits_nacked s m.subscription position (record { consumer = consumer; due = Some (now + m.nack_delay) }) keeps))
takes_within s (Tick name now) reply t allowed h within all keeps =
    some_elim (find (is_named name) s.subscriptions) _ (KeepsLimits t) h (λ sub found h. tick_within s name now sub reply t found h all keeps)
takes_within s (Seek name target) reply t allowed h within all keeps = settled t _ h.1 (limits_sought s name (length_before s target) keeps)
takes_within s (SeekTime name time) reply t allowed h within all keeps = settled t _ h.1 (limits_sought s name (length_before_time s time) keeps)
takes_within s (Skip name count) reply t allowed h within all keeps =
    some_elim (find (is_named name) s.subscriptions) _ (KeepsLimits t) h (λ sub found h. settled t _ h.1 (limits_acknowledged s name (first_live s sub count) keeps))
takes_within s (DropSubscription name) reply t allowed h within all keeps = settled t _ h.1 (limits_dropped s name all.well.named keeps)
takes_within s (Stats name) reply t allowed h within all keeps = some_elim (find (is_named name) s.subscriptions) _ (KeepsLimits t) h (λ sub found h. settled t s h.1 keeps)
takes_within s (Trim keep before most) reply t allowed h within all keeps = trim_within s keep before most reply t h keeps
takes_within s (SetRetention retention) reply t allowed h within all keeps = settled t _ h.1 (limits_retaining s retention within keeps)
takes_within s (Dispatch name now) reply t allowed h within all keeps =
    some_elim (find (is_named name) s.subscriptions) _ (KeepsLimits t) h (λ sub found h. dispatch_within s name now sub reply t h keeps)
takes_within s (Collect consumer) reply t allowed h within all keeps = settled t _ h.1 (limits_members s (is_member consumer) emptied (λ _. refl) keeps)
takes_within s (DeadNext name) reply t allowed h within all keeps = some_elim (find (is_named name) s.subscriptions) _ (KeepsLimits t) h (λ sub found h. settled t s h.1 keeps)
takes_within s (DeadDone name ordinal) reply t allowed h within all keeps =
    some_elim (find (is_named name) s.subscriptions) _ (KeepsLimits t) h (λ sub found h.
    some_elim (first_safe sub) _ (KeepsLimits t) h.1 (λ d first is. settled t _ is (limits_moved s name d keeps)))

step_within : (s : State) (event : Event) (reply : Reply) (t : State) → Answers s event reply t → IsWithinLimits event → IsAllKept s → KeepsLimits s → KeepsLimits t
step_within s event reply t h within all keeps =
    elim (split s event reply t h) [
      | inl same ↦ settled t s same keeps
      | inr taken ↦ takes_within s event reply t taken.0 taken.1 within all keeps
    ]

pub record IsReachedWithin (s : State) : Type 0 where
  pub reached : IsReached s
  pub keeps : KeepsLimits s

pub all_kept : (s : State) → IsReached s → IsAllKept s
all_kept s at = reached_all at.0 at.1 at.2 s at.3 at.4

pub run_within : (s : State) (events : List Event) (replies : List Reply) (t : State) → AllByRecursion IsWithinLimits events → Run s events replies t → IsReachedWithin s → IsReachedWithin t
run_within s [] [] t within run at = subst IsReachedWithin (sym run) at
run_within s (e ∷ events) (r ∷ replies) t within run at =
    run_within run.0 events replies t within.1 run.2
    (record { reached = reached_step s e r run.0 run.1 at.reached; keeps = step_within s e r run.0 run.1 within.0 (all_kept s at.reached) at.keeps })
run_within s [] (r ∷ replies) t within run at = absurd run
run_within s (e ∷ events) [] t within run at = absurd run
