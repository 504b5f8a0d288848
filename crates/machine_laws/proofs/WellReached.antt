-- Each step keeps what is well kept, and so does each run.
use Rattle.std.proofs.Common.{◌≡◌, ℕ, ◌+◌, ◌<◌, ◌≤◌, List, [], ◌∷◌, map, length, max, Some, None, Option, Bool, true, false, refl, ap, ◌∙◌, sym, subst, arith, inl, inr, true≢false}
use Rattle.std.specs.Prelude.{◌^◌, ◌&&◌, nat_lt, nat_le, not, is_some, if◌then◌else◌}
use Rattle.std.specs.List.{IsDistinct, find, filter, count_by, list_any}
use Rattle.std.specs.List.Sorted.{IsStrictlySortedBy}
use Rattle.std.specs.Option.{option_and_then}
use Rattle.std.specs.Ordering.{is_le}
use Rattle.std.specs.FinMap as map_of
use Rattle.std.proofs.lemmas.Bool.Decides.{nat_tests}
use Rattle.std.proofs.lemmas.List.Elements.{All-nil, All-map, All-weaker}
use Rattle.std.proofs.lemmas.List.Folds.{Any-from_list_any}
use Rattle.std.proofs.lemmas.List.Sums.{count_by-le-length}
use Rattle.position_core.specs.declared.position.Position.{Position}
use Rattle.position_core.specs.declared.message.Entry.{Entry}
use Rattle.position_core.specs.declared.topic_name.TopicName.{TopicName}
use Rattle.position_core.specs.declared.held.Held.{Held}
use Rattle.position_core.specs.declared.fault.Fault.TheVariants.{ProducerBusy, NoSession, NoSuchMessage, TopicFull}
use Rattle.position_core.specs.Position.{position_cmp, same_position}
use Rattle.delivery_machine.specs.Shares.{no_shares}
use Rattle.delivery_machine.specs.State.{State, Member, Subscription, DeadLetter, fresh}
use Rattle.delivery_machine.specs.Words.{known, count_of, is_named, is_member, is_producer, is_connected, is_live, has_member, has_position, next_position, visible, emptied, active_at}
use Rattle.delivery_machine.specs.Refusals.{refusal_of, adding_refused, publishing_refused, acking_refused, nacking_refused, dropping_refused, is_full, is_duplicate}
use Rattle.delivery_machine.specs.Producing.{durable_to, IsGiven, auto_name, with_message, message_of}
use Rattle.delivery_machine.specs.Joining.{permitted, without_member}
use Rattle.delivery_machine.specs.Acknowledging.{Acks, positions_up_to}
use Rattle.delivery_machine.specs.Delivering.{Dispatches}
use Rattle.delivery_machine.specs.Ticking.{Ticks, is_due, pending_positions, pending_positions_in}
use Rattle.delivery_machine.specs.Seeking.{length_before, length_before_time, first_live}
use Rattle.delivery_machine.specs.Dying.{dying_at, is_to_die, first_safe}
use Rattle.delivery_machine.specs.WellFormed.{has_message, HaveOrdinals, NamesRise, IsSound, IsSoundSubscription}
use Rattle.delivery_machine.specs.Trimming.{Trims}
use Rattle.delivery_machine.specs.Run.{Run, Answers, Takes}
use Rattle.delivery_machine.specs.Snapshot.{Snapshot, KeptSubscription, restarted, subscription_from}
use Rattle.delivery_machine.specs.Laws.{IsBeginning}
use Rattle.delivery_machine.specs.declared.event.Event.{Event}
use Rattle.delivery_machine.specs.declared.event.Event.TheVariants.{AddProducer, DropProducer, Publish, Stored, StoredTo, Progress, Subscribe, Leave, Permit, Ack, AckUpTo, Nack, Tick, Seek, SeekTime, Skip, DropSubscription, Stats, Trim, SetRetention, Dispatch, Collect, DeadNext, DeadDone}
use Rattle.delivery_machine.specs.declared.reply.Reply.{Reply}
use Rattle.delivery_machine.specs.declared.reply.Reply.TheVariants.{Sent, Idle, Quiet, Rewound, Released, Died, Trimmed, Untrimmed}
use Rattle.delivery_machine.proofs.RunSteps.{split, Run-keeps}
use Rattle.delivery_machine.proofs.Deciding.{or_false}
use Rattle.delivery_machine.proofs.Among.{contained_mapped}
use Rattle.delivery_machine.proofs.Passes.{passes}
use Rattle.delivery_machine.proofs.Tended.{position_is}
use Rattle.delivery_machine.proofs.Firsts.{some_elim, filter_contained}
use Rattle.delivery_machine.proofs.Sending.{taken_contained}
use Rattle.delivery_machine.proofs.Kept.{not_refused, not_refused_next}
use Rattle.machine_laws.proofs.OrderReached.{IsKeptInOrder, step_in_order, beginning_in_order, nobody_there}
use Rattle.delivery_machine.proofs.Messages.{message_taken, one_of_itself, one_listed, one_of_first}
use Rattle.delivery_machine.proofs.Keyed.{keys_mapped}
use Rattle.delivery_machine.proofs.Given.{none_given}
use Rattle.machine_laws.proofs.Named.{each_from_all}
use Rattle.machine_laws.proofs.Ordinals.{letters_mapped, once_ordinals}
use Rattle.machine_laws.proofs.Formed.{IsFormed, ArePending, formed_begun}
use Rattle.machine_laws.proofs.Uncollected.{none_out}
use Rattle.machine_laws.proofs.WellKept.{IsWellKept, letters, well_stored, well_retaining, well_published, well_connected, well_disconnected}
use Rattle.machine_laws.proofs.WellTaken.{AreLogged, well_acknowledged, well_redelivered, well_died, well_moved, well_sought, well_taken_over}
use Rattle.delivery_machine.proofs.Trimmed.{are_going}
use Rattle.machine_laws.proofs.WellTrimmed.{well_trimmed}
use Rattle.machine_laws.proofs.SharesSeated.{AreShared}
use Rattle.machine_laws.proofs.SharesReached.{step_shared, beginning_shared}
use Rattle.machine_laws.proofs.WellSeated.{well_nacked, well_sent, well_members, well_joined, well_left, well_dropped}

settled : (t u : State) → t ≡ u → IsWellKept u → IsWellKept t
settled t u is well = subst IsWellKept (sym is) well

-- ---- what was not refused

given_new : (s : State) (asked : Option (List ℕ)) (name : List ℕ) (auto : Option ℕ) → IsGiven s asked name auto → adding_refused s asked ≡ None → is_connected s name ≡ false
given_new s (Some asked) name auto is allowed = ap (is_connected s) is.0 ∙ not_refused (is_connected s asked) ProducerBusy _ allowed
given_new s None name auto is allowed = ap (is_connected s) is.2 ∙ (or_false (is_connected s (auto_name is.0)) (list_any _ (known s)) is.1.0).0

-- what is acknowledged is visible
ack_logged : (s : State) (consumer : ℕ) (position : Position) → acking_refused s consumer position ≡ None → AreLogged s (position ∷ [])
ack_logged s consumer position allowed p one =
    subst (λ (q : Position). has_message s.log q ≡ true) (one_of_itself position p one)
    (message_taken s.durable s.log position (seen (list_any (has_position position) (visible s)) (not_refused_next (not (has_member s consumer)) NoSession _ allowed)))
  where
    seen : (b : Bool) → (if not b then Some NoSuchMessage else None) ≡ None → b ≡ true
    seen true e = refl
    seen false e = cc

filtered_logged : (s : State) (q : Entry → Bool) → AreLogged s (map (λ (e : Entry). e.position) (filter q s.log))
filtered_logged s q p one = one_listed (filter q s.log) s.log p (filter_contained q s.log) one

live_logged : (s : State) (sub : Subscription) (count : ℕ) → AreLogged s (first_live s sub count)
live_logged s sub count p one =
    one_listed (filter (is_live sub) (visible s)) s.log p (λ e at. taken_contained s.durable s.log e (filter_contained (is_live sub) (visible s) e at))
    (one_of_first count (map (λ (e : Entry). e.position) (filter (is_live sub) (visible s))) p one)

-- what is released was pending
due_pending : (sub : Subscription) (now : ℕ) (position : Position) → is_due now (map_of.get sub.pending position) ≡ true → ArePending sub (position ∷ [])
due_pending sub now position due p one = by (map_of.get sub.pending position) refl due
  where
    by : (o : Option Held) → map_of.get sub.pending position ≡ o → is_due now o ≡ true → (h : Held) × (map_of.get sub.pending p ≡ Some h)
    by None got due = absurd (true≢false (sym due))
    by (Some h) got due = (h, ap (map_of.get sub.pending) (sym (one_of_itself position p one)) ∙ got)

all_pending : (log : List Entry) (sub : Subscription) → ArePending sub (pending_positions_in log sub)
all_pending log sub p one =
    let at = Any-from_list_any (same_position p) (pending_positions_in log sub) one in
    let from = contained_mapped (λ (e : Entry). e.position) (filter held log) at.1 (at.0, at.2, at.3) in
    by (map_of.get sub.pending p) refl (ap (λ (q : Position). map_of.contains_key sub.pending q) (position_is p at.1 at.4 ∙ from.2) ∙ passes held log from.0 from.1)
  where
    held : Entry → Bool
    held e = map_of.contains_key sub.pending e.position

    by : (o : Option Held) → map_of.get sub.pending p ≡ o → map_of.contains_key sub.pending p ≡ true → (h : Held) × (map_of.get sub.pending p ≡ Some h)
    by None got there = absurd (true≢false (sym there ∙ ap is_some got))
    by (Some h) got there = (h, got)

-- what dies is pending, and there is an ordinal for it
dies : (s : State) (sub : Subscription) (position : Position) (m : Member) → dying_at s sub position ≡ Some m → (h : Held) × (map_of.get sub.pending position ≡ Some h) × (s.next_ordinal < 2 ^ 62)
dies s sub position m dying = by (map_of.get sub.pending position) refl dying
  where
    room : (a b : Bool) (next : ℕ) → ((a && b) && nat_lt next (2 ^ 62)) ≡ true → next < 2 ^ 62
    room a b next e = grind (arith, nat_tests)

    chosen : (x : Member) (b : Bool) → is_to_die s.next_ordinal sub position x ≡ b → (if b then Some x else None) ≡ Some m → s.next_ordinal < 2 ^ 62
    chosen x true e is = room (nat_lt 0 x.max_redeliver) (nat_le x.max_redeliver (count_of sub position)) s.next_ordinal e
    chosen x false e is = cc

    found : (o : Option Member) → option_and_then (λ x. if is_to_die s.next_ordinal sub position x then Some x else None) o ≡ Some m → s.next_ordinal < 2 ^ 62
    found None is = cc
    found (Some x) is = chosen x (is_to_die s.next_ordinal sub position x) refl is

    by : (o : Option Held) → map_of.get sub.pending position ≡ o → option_and_then (λ h. option_and_then (λ x. if is_to_die s.next_ordinal sub position x then Some x else None) (find (is_member h.consumer) s.members)) o ≡ Some m → (h : Held) × (map_of.get sub.pending position ≡ Some h) × (s.next_ordinal < 2 ^ 62)
    by None got is = cc
    by (Some h) got is = (h, got, found (find (is_member h.consumer) s.members) is)

-- ---- each step

publish_well : (s : State) (e : Entry) (t : State) (duplicate : Bool) → (if duplicate then None else if is_full s then Some TopicFull else None) ≡ None → e.position ≡ next_position s
    → t ≡ (if duplicate then s else with_message s e) → s.durable ≤ length s.log → IsWellKept s → IsWellKept t
publish_well s e t true allowed at is low well = settled t s is well
publish_well s e t false allowed at is low well = settled t (with_message s e) is (well_published s e at (not_refused (is_full s) TopicFull None allowed) low well)

acks_well : (s : State) (consumer : ℕ) (positions : List Position) (reply : Reply) (t : State) → AreLogged s positions → Acks s consumer positions reply t → IsWellKept s → IsWellKept t
acks_well s consumer positions reply t logged h well =
    some_elim (find (is_member consumer) s.members) _ (IsWellKept t) h.1 (λ m found is. settled t _ is (well_acknowledged s m.subscription positions logged well))

tick_well : (s : State) (name : List ℕ) (now : ℕ) (sub : Subscription) (reply : Reply) (t : State) → find (is_named name) s.subscriptions ≡ Some sub → Ticks s name now sub reply t → IsWellKept s → IsWellKept t
tick_well s name now sub Quiet t found h well = settled t s h.1 well
tick_well s name now sub (Rewound count) t found h well = settled t _ h.3 (well_redelivered s name sub (pending_positions s sub) found (all_pending s.log sub) well)
tick_well s name now sub (Released position) t found h well = settled t _ h.3 (well_redelivered s name sub (position ∷ []) found (due_pending sub now position h.1) well)
tick_well s name now sub (Died position ordinal) t found h well =
    some_elim (dying_at s sub position) _ (IsWellKept t) h.3 (λ m dying is.
    let at = dies s sub position m dying in
    settled t _ is (well_died s name sub position at.0 m found at.1 at.2 well))
tick_well s name now sub reply t found h well = absurd h

dispatch_well : (s : State) (name : List ℕ) (now : ℕ) (sub : Subscription) (reply : Reply) (t : State) → find (is_named name) s.subscriptions ≡ Some sub → Dispatches s name now sub reply t → IsWellKept s → IsWellKept t
dispatch_well s name now sub (Sent consumer position count) t found h well = settled t _ h.6 (well_sent s name sub h.0 h.1 now found h.2 well)
dispatch_well s name now sub Idle t found h well = settled t s h.1 well
dispatch_well s name now sub reply t found h well = absurd h

drop_well : (s : State) (name : List ℕ) (o : Option Subscription) → find (is_named name) s.subscriptions ≡ o → dropping_refused s name o ≡ None → (sub : Subscription) × (find (is_named name) s.subscriptions ≡ Some sub)
drop_well s name None found allowed = cc
drop_well s name (Some sub) found allowed = (sub, found)

trims_well : (s : State) (keep before most : ℕ) (reply : Reply) (t : State) → Trims s keep before most reply t → IsKeptInOrder s → IsWellKept s → IsWellKept t
trims_well s keep before most (Trimmed gone) t h order well = settled t _ h.2 (well_trimmed s _ (are_going s keep before most h.0) well)
trims_well s keep before most Untrimmed t h order well = settled t s h.1 well
trims_well s keep before most reply t h order well = absurd h

takes_well : (s : State) (event : Event) (reply : Reply) (t : State) → refusal_of s event ≡ None → Takes s event reply t → IsKeptInOrder s → IsWellKept s → IsWellKept t
takes_well s (AddProducer name base) reply t allowed h order well = settled t _ h.3.1 (well_connected s _ refl (given_new s name h.0 h.1 h.2 allowed) well)
takes_well s (DropProducer producer) reply t allowed h order well = settled t _ h.1 (well_disconnected s (is_producer producer) well)
takes_well s (Publish producer sequence body now) reply t allowed h order well =
    some_elim (find (is_producer producer) s.producers) _ (IsWellKept t) h (λ p found h.
    publish_well s (message_of s p sequence body now) t (is_duplicate s p sequence) (sym (ap (publishing_refused s sequence) found) ∙ allowed) refl h.1 order.all.durable well)
takes_well s Stored reply t allowed h order well = settled t _ h.1 (well_stored s (λ sub. length sub.dead) (length s.log) (λ sub _. omega arith) order.all.durable well)
takes_well s (StoredTo count ordinal) reply t allowed h order well =
    settled t _ h.1 (well_stored s (λ sub. max sub.safe (count_by (λ d. nat_lt d.ordinal ordinal) sub.dead)) (durable_to s count)
    (λ sub low. let less = count_by-le-length (λ (d : DeadLetter). nat_lt d.ordinal ordinal) sub.dead in omega arith) (omega arith) well)
takes_well s Progress reply t allowed h order well = settled t s h.1 well
takes_well s (Subscribe name kind level flow ack_timeout nack_delay max_redeliver dead_topic initial ranges) reply t allowed h order well =
    settled t _ h.1 (well_taken_over _ name (active_at s name) (well_joined s kind ranges initial _ refl refl well))
takes_well s (Leave consumer) reply t allowed h order well =
    some_elim (find (is_member consumer) s.members) _ (IsWellKept t) h.1 (λ m found is.
    settled t _ is (well_taken_over (without_member s consumer m.subscription) m.subscription (active_at s m.subscription) (well_left s consumer m found well)))
takes_well s (Permit consumer permits) reply t allowed h order well = settled t _ h.1 (well_members s (is_member consumer) (permitted permits) (λ _. refl) (λ _. refl) (λ m d at. at) well)
takes_well s (Ack consumer position) reply t allowed h order well = acks_well s consumer (position ∷ []) reply t (ack_logged s consumer position allowed) h well
takes_well s (AckUpTo consumer position) reply t allowed h order well = acks_well s consumer (positions_up_to position s.log) reply t (filtered_logged s (λ e. is_le (position_cmp e.position position))) h well
takes_well s (Nack consumer position now) reply t allowed h order well =
    some_elim (find (is_member consumer) s.members) _ (IsWellKept t) h.1 (λ m found is.
    settled t _ is (well_nacked s m consumer position (Some (now + m.nack_delay)) (sym (ap (nacking_refused s consumer position) found) ∙ allowed) well))
takes_well s (Tick name now) reply t allowed h order well =
    some_elim (find (is_named name) s.subscriptions) _ (IsWellKept t) h (λ sub found h. tick_well s name now sub reply t found h well)
takes_well s (Seek name target) reply t allowed h order well = settled t _ h.1 (well_sought s name (length_before s target) well)
takes_well s (SeekTime name time) reply t allowed h order well = settled t _ h.1 (well_sought s name (length_before_time s time) well)
takes_well s (Skip name count) reply t allowed h order well =
    some_elim (find (is_named name) s.subscriptions) _ (IsWellKept t) h (λ sub found h. settled t _ h.1 (well_acknowledged s name (first_live s sub count) (live_logged s sub count) well))
takes_well s (DropSubscription name) reply t allowed h order well =
    let there = drop_well s name (find (is_named name) s.subscriptions) refl allowed in
    settled t _ h.1 (well_dropped s name there.0 there.1 (nobody_there s name (find (is_named name) s.subscriptions) allowed) well)
takes_well s (Stats name) reply t allowed h order well = some_elim (find (is_named name) s.subscriptions) _ (IsWellKept t) h (λ sub found h. settled t s h.1 well)
takes_well s (Trim keep before most) reply t allowed h order well = trims_well s keep before most reply t h order well
takes_well s (SetRetention retention) reply t allowed h order well = settled t _ h.1 (well_retaining s retention well)
takes_well s (Dispatch name now) reply t allowed h order well =
    some_elim (find (is_named name) s.subscriptions) _ (IsWellKept t) h (λ sub found h. dispatch_well s name now sub reply t found h well)
takes_well s (Collect consumer) reply t allowed h order well = settled t _ h.1 (well_members s (is_member consumer) emptied (λ _. refl) (λ _. refl) (λ m d at. absurd (none_out d at)) well)
takes_well s (DeadNext name) reply t allowed h order well = some_elim (find (is_named name) s.subscriptions) _ (IsWellKept t) h (λ sub found h. settled t s h.1 well)
takes_well s (DeadDone name ordinal) reply t allowed h order well =
    some_elim (find (is_named name) s.subscriptions) _ (IsWellKept t) h (λ sub found h.
    some_elim (first_safe sub) _ (IsWellKept t) h.1 (λ d first is. settled t _ is (well_moved s name sub d found first well)))

step_well : (s : State) (event : Event) (reply : Reply) (t : State) → Answers s event reply t → IsKeptInOrder s → IsWellKept s → IsWellKept t
step_well s event reply t h order well =
    elim (split s event reply t h) [
      | inl same ↦ settled t s same well
      | inr taken ↦ takes_well s event reply t taken.0 taken.1 order well
    ]

-- ---- where a run begins

well_fresh : (name : TopicName) (ledger_size : ℕ) → IsWellKept (fresh name ledger_size)
unfolding IsStrictlySortedBy IsDistinct
well_fresh name ledger_size = record {
  ledgered = record { entries = λ some. All-nil (λ e. e.position.entry < ledger_size); last_ledger = omega arith };
  authors = record { names = tt; indexes = none_given 0 };
  gone = omega arith;
  connected = record { numbers = none_given 1; names = tt };
  members = none_given 1;
  there = tt;
  named = tt;
  ordinals = record { once = λ n. omega arith; free = λ n low. refl; last_ordinal = omega arith };
  each = λ name sub found. cc;
  uncollected = λ m at. absurd (none_out m at);
}

well_restarted : (kept : Snapshot) → IsSound kept → IsWellKept (restarted kept)
unfolding IsDistinct
well_restarted kept sound = record {
  ledgered = record { entries = sound.log.entries; last_ledger = omega arith };
  gone = sound.gone;
  authors = sound.authors;
  connected = record { numbers = none_given 1; names = tt };
  members = none_given 1;
  there = tt;
  named = subst NamesRise (sym (keys_mapped (λ (sub : Subscription). sub.name) subscription_from (λ _. refl) kept.subscriptions)) sound.names;
  ordinals = once_ordinals letters kept.next_ordinal (map subscription_from kept.subscriptions)
      (subst (HaveOrdinals kept.next_ordinal) (sym (letters_mapped letters (λ (sub : KeptSubscription). sub.dead) subscription_from (λ _. refl) kept.subscriptions)) sound.ordinals);
  each = each_from_all (IsFormed kept.log (length kept.log)) (map subscription_from kept.subscriptions)
      (All-map (IsFormed kept.log (length kept.log)) subscription_from kept.subscriptions
      (All-weaker (IsSoundSubscription kept.log) (λ sub. IsFormed kept.log (length kept.log) (subscription_from sub))
      (λ sub one. formed_begun kept.log (length kept.log) sub.name sub.kind sub.acknowledged sub.counts no_shares sub.dead (length sub.dead) one.acknowledged one.counted one.dead (omega arith)) kept.subscriptions sound.subscriptions));
  uncollected = λ m at. absurd (none_out m at);
}

well_beginning : (s : State) → IsBeginning s → IsWellKept s
well_beginning s begins = elim begins [
  | inl new ↦ settled s _ new.2 (well_fresh new.0 new.1)
  | inr old ↦ settled s _ old.2 (well_restarted old.0 old.1)
]

-- all that every reached state keeps
pub record IsAllKept (s : State) : Type 0 where
  pub order : IsKeptInOrder s
  pub well : IsWellKept s
  pub shared : AreShared s

pub reached_all : (s : State) (events : List Event) (replies : List Reply) (t : State) → IsBeginning s → Run s events replies t → IsAllKept t
reached_all s events replies t begins run =
    Run-keeps IsAllKept (λ s event reply t step all. record { order = step_in_order s event reply t step all.order; well = step_well s event reply t step all.order all.well; shared = step_shared s event reply t step all.well all.shared }) s events replies t run
    (record { order = beginning_in_order s begins; well = well_beginning s begins; shared = beginning_shared s begins })
