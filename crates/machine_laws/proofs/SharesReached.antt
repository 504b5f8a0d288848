-- In every reached state the members of a Key_Shared subscription have its shares, each one of them.
use Rattle.std.proofs.Common.{◌≡◌, ℕ, ◌+◌, List, [], ◌∷◌, map, Some, None, Option, Bool, true, false, refl, ap, sym, subst, inl, inr, get_or}
use Rattle.std.specs.Prelude.{◌==◌, ◌&&◌, if◌then◌else◌}
use Rattle.std.specs.List.{find}
use Rattle.std.specs.Str.{bytes_eq}
use Rattle.std.proofs.lemmas.List.Elements.{All-map}
use Rattle.position_core.specs.declared.position.Position.{Position}
use Rattle.position_core.specs.declared.message.Entry.{Entry}
use Rattle.delivery_machine.specs.State.{State, Member, Subscription, DeadLetter}
use Rattle.delivery_machine.specs.Words.{changed, is_named, is_at, is_member, is_producer, active_at, emptied, emptied_at, count_of}
use Rattle.delivery_machine.specs.Refusals.{refusal_of, is_duplicate}
use Rattle.delivery_machine.specs.Producing.{storing, storing_below, with_message, message_of}
use Rattle.delivery_machine.specs.Joining.{releasing_all, all_released, is_taken_over, taken_over, without_member, permitted}
use Rattle.delivery_machine.specs.Acknowledging.{Acks, acknowledging, with_acknowledged, forgetting, without, positions_up_to}
use Rattle.delivery_machine.specs.Delivering.{Dispatches, holding, given, sent, due_after}
use Rattle.delivery_machine.specs.Ticking.{Ticks, redelivering, redelivered, pending_positions}
use Rattle.delivery_machine.specs.Seeking.{sought, length_before, length_before_time, first_live}
use Rattle.delivery_machine.specs.Dying.{burying, letter_of, died, moving, moved, dying_at, first_safe}
use Rattle.delivery_machine.specs.Trimming.{without_messages, Trims}
use Rattle.delivery_machine.specs.Run.{Answers, Takes}
use Rattle.delivery_machine.specs.Snapshot.{KeptSubscription, subscription_from}
use Rattle.delivery_machine.specs.Laws.{IsBeginning}
use Rattle.delivery_machine.specs.declared.event.Event.{Event}
use Rattle.delivery_machine.specs.declared.event.Event.TheVariants.{AddProducer, DropProducer, Publish, Stored, StoredTo, Progress, Subscribe, Leave, Permit, Ack, AckUpTo, Nack, Tick, Seek, SeekTime, Skip, DropSubscription, Stats, Trim, SetRetention, Dispatch, Collect, DeadNext, DeadDone}
use Rattle.delivery_machine.specs.declared.reply.Reply.{Reply}
use Rattle.delivery_machine.specs.declared.reply.Reply.TheVariants.{Sent, Idle, Quiet, Rewound, Released, Died, Trimmed, Untrimmed}
use Rattle.delivery_machine.proofs.RunSteps.{split}
use Rattle.delivery_machine.proofs.Firsts.{some_elim, any_changed, any_mapped}
use Rattle.delivery_machine.proofs.Tended.{is_seat, is_seated}
use Rattle.machine_laws.proofs.Ranks.{rank_of, ranks_changed, ranks_mapped, same_rank_if, seats_at, same_seats}
use Rattle.delivery_machine.proofs.EachFirst.{each_kept, each_changed, each_mapped}
use Rattle.machine_laws.proofs.Named.{found_left, each_from_all}
use Rattle.machine_laws.proofs.WellKept.{IsWellKept}
use Rattle.machine_laws.proofs.SharedOut.{shares_of_same, nobody_there}
use Rattle.machine_laws.proofs.SharesSeated.{HasShares, AllHaveShares, AreShared, shared_joined, shared_left}

-- ---- members stay where they are

record SameSeats (before after : List Member) : Type 0 where
  seated : (name : List ℕ) (number : ℕ) → is_seated after name number ≡ is_seated before name number
  counted : (name : List ℕ) → seats_at after name ≡ seats_at before name

same_all : (members : List Member) → SameSeats members members
same_all members = record { seated = λ name number. refl; counted = λ name. refl }

same_changed : (q : Member → Bool) (f : Member → Member) → ((m : Member) → rank_of (f m) ≡ rank_of m) → (members : List Member) → SameSeats members (changed q f members)
same_changed q f same members = record {
  seated = λ name number. any_changed (is_seat name number) q f (λ m. ap (λ r. bytes_eq r.name name && r.number == number) (same m)) members;
  counted = λ name. same_seats members (changed q f members) name (ranks_changed q f same members);
}

same_mapped : (f : Member → Member) → ((m : Member) → rank_of (f m) ≡ rank_of m) → (members : List Member) → SameSeats members (map f members)
same_mapped f same members = record {
  seated = λ name number. any_mapped (is_seat name number) f (λ m. ap (λ r. bytes_eq r.name name && r.number == number) (same m)) members;
  counted = λ name. same_seats members (map f members) name (ranks_mapped f same members);
}

same_shares : (before after : List Member) (sub : Subscription) → SameSeats before after → HasShares before sub → HasShares after sub
same_shares before after sub same have =
    shares_of_same sub.kind sub.shares (is_seated before sub.name) (is_seated after sub.name) (seats_at before sub.name) (seats_at after sub.name) (same.seated sub.name) (same.counted sub.name) have

shared_members : (before after : List Member) (subs : List Subscription) → SameSeats before after → AllHaveShares before subs → AllHaveShares after subs
shared_members before after subs same all = each_kept (HasShares before) (HasShares after) subs (λ sub. same_shares before after sub same) all

shared_changed : (before after : List Member) (name : List ℕ) (f : Subscription → Subscription) (subs : List Subscription) → ((sub : Subscription) → (f sub).name ≡ sub.name)
    → ((sub : Subscription) → HasShares after sub → HasShares after (f sub)) → SameSeats before after → AllHaveShares before subs → AllHaveShares after (changed (is_named name) f subs)
shared_changed before after name f subs named keeps same all =
    each_changed (HasShares before) (HasShares after) name f subs named (λ sub _ have. same_shares before after sub same have) (λ sub _ have. keeps sub (same_shares before after sub same have)) all

forgotten : (name : List ℕ) (positions : List Position) (members : List Member) → SameSeats members (map (forgetting name positions) members)
forgotten name positions = same_mapped (forgetting name positions) (λ m. same_rank_if (is_at name m) m (record m { out = without positions m.out }) refl)

all_emptied : (name : List ℕ) (members : List Member) → SameSeats members (map (emptied_at name) members)
all_emptied name = same_mapped (emptied_at name) (λ m. same_rank_if (is_at name m) m (emptied m) refl)

shared_acknowledged : (s : State) (name : List ℕ) (positions : List Position) → AreShared s → AreShared (with_acknowledged s name positions)
shared_acknowledged s name positions all =
    shared_changed s.members (map (forgetting name positions) s.members) name (acknowledging positions) s.subscriptions (λ _. refl) (λ sub have. have) (forgotten name positions s.members) all

shared_redelivered : (s : State) (name : List ℕ) (positions : List Position) → AreShared s → AreShared (redelivered s name positions)
shared_redelivered s name positions all =
    shared_changed s.members (map (forgetting name positions) s.members) name (redelivering positions) s.subscriptions (λ _. refl) (λ sub have. have) (forgotten name positions s.members) all

shared_died : (s : State) (name : List ℕ) (position : Position) (m : Member) → AreShared s → AreShared (died s name position m)
shared_died s name position m all =
    shared_changed s.members (map (forgetting name (position ∷ [])) s.members) name (burying (letter_of s position m)) s.subscriptions (λ _. refl) (λ sub have. have) (forgotten name (position ∷ []) s.members) all

shared_moved : (s : State) (name : List ℕ) (letter : DeadLetter) → AreShared s → AreShared (moved s name letter)
shared_moved s name letter all =
    shared_changed s.members (map (forgetting name (letter.position ∷ [])) s.members) name (moving letter) s.subscriptions (λ _. refl) (λ sub have. have) (forgotten name (letter.position ∷ []) s.members) all

shared_sought : (s : State) (name : List ℕ) (count : ℕ) → AreShared s → AreShared (sought s name count)
shared_sought s name count all =
    shared_changed s.members (map (emptied_at name) s.members) name _ s.subscriptions (λ _. refl) (λ sub have. have) (all_emptied name s.members) all

shared_taken_over : (s : State) (name : List ℕ) (before : Option ℕ) → AreShared s → AreShared (taken_over name before s)
shared_taken_over s name before all = by (is_taken_over name before s)
  where
    by : (b : Bool) → AreShared (if b then all_released name s else s)
    by true = shared_changed s.members (map (emptied_at name) s.members) name releasing_all s.subscriptions (λ _. refl) (λ sub have. have) (all_emptied name s.members) all
    by false = all

shared_sent : (s : State) (name : List ℕ) (sub : Subscription) (e : Entry) (m : Member) (now : ℕ) → AreShared s → AreShared (sent s name sub e m now)
shared_sent s name sub e m now all =
    shared_changed s.members (sent s name sub e m now).members name (holding e.position (record { consumer = m.number; due = due_after now m.ack_timeout })) s.subscriptions (λ _. refl) (λ sub have. have)
    (same_changed (is_member m.number) (given (record { message = e; count = count_of sub e.position })) (λ _. refl) s.members) all

-- ---- each step

settled : (t u : State) → t ≡ u → AreShared u → AreShared t
settled t u is all = subst AreShared (sym is) all

acks_shared : (s : State) (consumer : ℕ) (positions : List Position) (reply : Reply) (t : State) → Acks s consumer positions reply t → AreShared s → AreShared t
acks_shared s consumer positions reply t h all =
    some_elim (find (is_member consumer) s.members) _ (AreShared t) h.1 (λ m found is. settled t _ is (shared_acknowledged s m.subscription positions all))

tick_shared : (s : State) (name : List ℕ) (now : ℕ) (sub : Subscription) (reply : Reply) (t : State) → Ticks s name now sub reply t → AreShared s → AreShared t
tick_shared s name now sub Quiet t h all = settled t s h.1 all
tick_shared s name now sub (Rewound count) t h all = settled t _ h.3 (shared_redelivered s name (pending_positions s sub) all)
tick_shared s name now sub (Released position) t h all = settled t _ h.3 (shared_redelivered s name (position ∷ []) all)
tick_shared s name now sub (Died position ordinal) t h all =
    some_elim (dying_at s sub position) _ (AreShared t) h.3 (λ m found is. settled t _ is (shared_died s name position m all))
tick_shared s name now sub reply t h all = absurd h

dispatch_shared : (s : State) (name : List ℕ) (now : ℕ) (sub : Subscription) (reply : Reply) (t : State) → Dispatches s name now sub reply t → AreShared s → AreShared t
dispatch_shared s name now sub (Sent consumer position count) t h all = settled t _ h.6 (shared_sent s name sub h.0 h.1 now all)
dispatch_shared s name now sub Idle t h all = settled t s h.1 all
dispatch_shared s name now sub reply t h all = absurd h

publish_shared : (s : State) (e : Entry) (t : State) (duplicate : Bool) → t ≡ (if duplicate then s else with_message s e) → AreShared s → AreShared t
publish_shared s e t true is all = settled t s is all
publish_shared s e t false is all = settled t (with_message s e) is all

trims_shared : (s : State) (keep before most : ℕ) (reply : Reply) (t : State) → Trims s keep before most reply t → AreShared s → AreShared t
trims_shared s keep before most (Trimmed gone) t h all = settled t _ h.2 (each_mapped (HasShares s.members) (HasShares s.members) (without_messages _) s.subscriptions (λ _. refl) (λ sub have. have) all)
trims_shared s keep before most Untrimmed t h all = settled t s h.1 all
trims_shared s keep before most reply t h all = absurd h

takes_shared : (s : State) (event : Event) (reply : Reply) (t : State) → refusal_of s event ≡ None → Takes s event reply t → IsWellKept s → AreShared s → AreShared t
takes_shared s (AddProducer name base) reply t allowed h well all = settled t _ h.3.1 all
takes_shared s (DropProducer producer) reply t allowed h well all = settled t _ h.1 all
takes_shared s (Publish producer sequence body now) reply t allowed h well all =
    some_elim (find (is_producer producer) s.producers) _ (AreShared t) h (λ p found h. publish_shared s (message_of s p sequence body now) t (is_duplicate s p sequence) h.1 all)
takes_shared s Stored reply t allowed h well all = settled t _ h.1 (each_mapped (HasShares s.members) (HasShares s.members) storing s.subscriptions (λ _. refl) (λ sub have. have) all)
takes_shared s (StoredTo count ordinal) reply t allowed h well all = settled t _ h.1 (each_mapped (HasShares s.members) (HasShares s.members) (storing_below ordinal) s.subscriptions (λ _. refl) (λ sub have. have) all)
takes_shared s Progress reply t allowed h well all = settled t s h.1 all
takes_shared s (Subscribe name kind level flow ack_timeout nack_delay max_redeliver dead_topic initial ranges) reply t allowed h well all =
    settled t _ h.1 (shared_taken_over _ name (active_at s name) (shared_joined s kind ranges initial _ refl h.2 allowed well all))
takes_shared s (Leave consumer) reply t allowed h well all =
    some_elim (find (is_member consumer) s.members) _ (AreShared t) h.1 (λ m found is.
    settled t _ is (shared_taken_over (without_member s consumer m.subscription) m.subscription (active_at s m.subscription) (shared_left s consumer m found well all)))
takes_shared s (Permit consumer permits) reply t allowed h well all = settled t _ h.1 (shared_members s.members _ s.subscriptions (same_changed (is_member consumer) (permitted permits) (λ _. refl) s.members) all)
takes_shared s (Ack consumer position) reply t allowed h well all = acks_shared s consumer (position ∷ []) reply t h all
takes_shared s (AckUpTo consumer position) reply t allowed h well all = acks_shared s consumer (positions_up_to position s.log) reply t h all
takes_shared s (Nack consumer position now) reply t allowed h well all =
    some_elim (find (is_member consumer) s.members) _ (AreShared t) h.1 (λ m found is.
    settled t _ is (shared_changed s.members s.members m.subscription (holding position (record { consumer = consumer; due = Some (now + m.nack_delay) })) s.subscriptions (λ _. refl) (λ sub have. have) (same_all s.members) all))
takes_shared s (Tick name now) reply t allowed h well all =
    some_elim (find (is_named name) s.subscriptions) _ (AreShared t) h (λ sub found h. tick_shared s name now sub reply t h all)
takes_shared s (Seek name target) reply t allowed h well all = settled t _ h.1 (shared_sought s name (length_before s target) all)
takes_shared s (SeekTime name time) reply t allowed h well all = settled t _ h.1 (shared_sought s name (length_before_time s time) all)
takes_shared s (Skip name count) reply t allowed h well all =
    some_elim (find (is_named name) s.subscriptions) _ (AreShared t) h (λ sub found h. settled t _ h.1 (shared_acknowledged s name (first_live s sub count) all))
takes_shared s (DropSubscription name) reply t allowed h well all = settled t _ h.1 (λ n sub found. all n sub (found_left n name s.subscriptions sub well.named found).0)
takes_shared s (Stats name) reply t allowed h well all = some_elim (find (is_named name) s.subscriptions) _ (AreShared t) h (λ sub found h. settled t s h.1 all)
takes_shared s (Trim keep before most) reply t allowed h well all = trims_shared s keep before most reply t h all
takes_shared s (SetRetention retention) reply t allowed h well all = settled t _ h.1 all
takes_shared s (Dispatch name now) reply t allowed h well all =
    some_elim (find (is_named name) s.subscriptions) _ (AreShared t) h (λ sub found h. dispatch_shared s name now sub reply t h all)
takes_shared s (Collect consumer) reply t allowed h well all = settled t _ h.1 (shared_members s.members _ s.subscriptions (same_changed (is_member consumer) emptied (λ _. refl) s.members) all)
takes_shared s (DeadNext name) reply t allowed h well all = some_elim (find (is_named name) s.subscriptions) _ (AreShared t) h (λ sub found h. settled t s h.1 all)
takes_shared s (DeadDone name ordinal) reply t allowed h well all =
    some_elim (find (is_named name) s.subscriptions) _ (AreShared t) h (λ sub found h.
    some_elim (first_safe sub) _ (AreShared t) h.1 (λ d first is. settled t _ is (shared_moved s name d all)))

pub step_shared : (s : State) (event : Event) (reply : Reply) (t : State) → Answers s event reply t → IsWellKept s → AreShared s → AreShared t
step_shared s event reply t h well all =
    elim (split s event reply t h) [
      | inl same ↦ settled t s same all
      | inr taken ↦ takes_shared s event reply t taken.0 taken.1 well all
    ]

-- ---- where a run begins

unshared : (kept : KeptSubscription) → HasShares [] (subscription_from kept)
unshared kept = nobody_there kept.kind (is_seated [] kept.name) (λ number. refl)

pub beginning_shared : (s : State) → IsBeginning s → AreShared s
beginning_shared s begins = elim begins [
  | inl new ↦ settled s _ new.2 (λ name sub found. cc)
  | inr old ↦ settled s _ old.2 (each_from_all (HasShares []) (map subscription_from old.0.subscriptions) (All-map (HasShares []) subscription_from old.0.subscriptions (λ k d low. unshared (get_or old.0.subscriptions k d))))
]
