-- What a step does to the log: messages go from its front or come at its end, and nothing is made durable but by the word of a store.
use Rattle.std.proofs.Common.{◌≡◌, ℕ, ◌+◌, ◌<◌, ◌≤◌, List, [], ◌∷◌, ◌++◌, length, Option, Bool, true, false, refl, ap₂, sym, subst, arith, true≢false}
use Rattle.std.proofs.lemmas.List.{append-nil}
use Rattle.std.specs.Prelude.{ℤ, drop, if◌then◌else◌}
use Rattle.std.specs.List.{find}
use mathlib.Core.List.{IsPrefix}
use Rattle.position_core.specs.declared.message.Entry.{Entry}
use Rattle.delivery_machine.specs.State.{State, Subscription}
use Rattle.delivery_machine.specs.Words.{is_named, is_member, is_producer, active_at, next_position}
use Rattle.delivery_machine.specs.Refusals.{is_duplicate}
use Rattle.delivery_machine.specs.Producing.{with_message, message_of}
use Rattle.delivery_machine.specs.Joining.{is_taken_over, taken_over, all_released, with_member, without_member}
use Rattle.delivery_machine.specs.Acknowledging.{Acks, positions_up_to}
use Rattle.delivery_machine.specs.Delivering.{Dispatches}
use Rattle.delivery_machine.specs.Ticking.{Ticks}
use Rattle.delivery_machine.specs.Dying.{dying_at, first_safe}
use Rattle.delivery_machine.specs.Trimming.{going, Trims}
use Rattle.delivery_machine.specs.Run.{Step, Takes}
use Rattle.delivery_machine.specs.Journals.{is_storing}
use Rattle.delivery_machine.specs.declared.event.Event.{Event}
use Rattle.delivery_machine.specs.declared.event.Event.TheVariants.{AddProducer, DropProducer, Publish, Stored, StoredTo, Progress, Subscribe, Leave, Permit, Ack, AckUpTo, Nack, Tick, Seek, SeekTime, Skip, DropSubscription, Trim, SetRetention, Dispatch, Collect, DeadNext, DeadDone}
use Rattle.delivery_machine.specs.declared.event.Event.TheVariants as event
use Rattle.delivery_machine.specs.declared.reply.Reply.{Reply}
use Rattle.delivery_machine.specs.declared.reply.Reply.TheVariants.{Quiet, Rewound, Released, Died, Sent, Idle, Trimmed, Untrimmed, Refused}
use Rattle.delivery_machine.proofs.Firsts.{some_elim}
use Rattle.delivery_machine.proofs.Trimmed.{are_going}

-- the log is as it was, or a message came, or the first ones went
pub data IsLogged (s t : State) : Type 0 where
  remains : t.log ≡ s.log → t.ledger ≡ s.ledger → IsLogged s t
  comes : (e : Entry) → e.position ≡ next_position s → t.log ≡ s.log ++ e ∷ [] → t.ledger ≡ e.position.ledger → IsLogged s t
  goes : (n : ℕ) → n < length s.log → t.log ≡ drop n s.log → t.ledger ≡ s.ledger → IsLogged s t

-- the name stays, the log goes on where the first messages went, all of them durable, and only a store's word makes more of it durable
pub record IsGrown (s : State) (e : Event) (t : State) : Type 0 where
  pub name : t.name ≡ s.name
  pub went : ℕ
  pub gone : t.gone ≡ s.gone + went
  pub were_durable : went ≤ s.durable
  pub log : IsPrefix (drop went s.log) t.log
  pub durable : is_storing e ≡ false → t.gone + t.durable ≡ s.gone + s.durable
  pub logged : IsLogged s t

pub prefix_same : {A : Type 0} (xs : List A) → IsPrefix xs xs
prefix_same xs = ([], append-nil xs)

-- the name, the log and what is durable are the same
record IsLevel (s t : State) : Type 0 where
  gone : t.gone ≡ s.gone
  ledger : t.ledger ≡ s.ledger
  name : t.name ≡ s.name
  log : t.log ≡ s.log
  durable : t.durable ≡ s.durable

level : (s : State) → IsLevel s s
level s = record { name = refl; log = refl; durable = refl; gone = refl; ledger = refl }

level_as : (s t u : State) → t ≡ u → IsLevel s u → IsLevel s t
level_as s t u is at = subst (IsLevel s) (sym is) at

grown : (s : State) (e : Event) (t : State) → IsLevel s t → IsGrown s e t
grown s e t at = record {
  name = at.name;
  went = 0;
  gone = let same = at.gone in omega (arith, same);
  were_durable = omega arith;
  log = subst (λ log. IsPrefix s.log log) (sym at.log) (prefix_same s.log);
  durable = λ _. ap₂ (λ (a b : ℕ). a + b) at.gone at.durable;
  logged = remains at.log at.ledger;
}

none_more : (n : ℕ) → n ≡ n + 0
none_more n = omega arith

level_over : (s : State) (name : List ℕ) (before : Option ℕ) (t : State) → IsLevel s t → IsLevel s (taken_over name before t)
level_over s name before t at = by (is_taken_over name before t)
  where
    by : (b : Bool) → IsLevel s (if b then all_released name t else t)
    by true = record { name = at.name; log = at.log; durable = at.durable; gone = at.gone; ledger = at.ledger }
    by false = at

level_acks : (s : State) (consumer : ℕ) (positions : List _) (r : Reply) (t : State) → Acks s consumer positions r t → IsLevel s t
level_acks s consumer positions r t h =
    some_elim (find (is_member consumer) s.members) _ (IsLevel s t) h.1 (λ m found is. level_as s t _ is (record { name = refl; log = refl; durable = refl; gone = refl; ledger = refl }))

level_ticks : (s : State) (name : List ℕ) (now : ℕ) (sub : Subscription) (r : Reply) (t : State) → Ticks s name now sub r t → IsLevel s t
level_ticks s name now sub Quiet t h = level_as s t s h.1 (level s)
level_ticks s name now sub (Rewound count) t h = level_as s t _ h.3 (record { name = refl; log = refl; durable = refl; gone = refl; ledger = refl })
level_ticks s name now sub (Released p) t h = level_as s t _ h.3 (record { name = refl; log = refl; durable = refl; gone = refl; ledger = refl })
level_ticks s name now sub (Died p ordinal) t h =
    some_elim (dying_at s sub p) _ (IsLevel s t) h.3 (λ m found is. level_as s t _ is (record { name = refl; log = refl; durable = refl; gone = refl; ledger = refl }))
level_ticks s name now sub reply t h = absurd h

level_sent : (s : State) (name : List ℕ) (now : ℕ) (sub : Subscription) (r : Reply) (t : State) → Dispatches s name now sub r t → IsLevel s t
level_sent s name now sub (Sent consumer position count) t h = level_as s t _ h.6 (record { name = refl; log = refl; durable = refl; gone = refl; ledger = refl })
level_sent s name now sub Idle t h = level_as s t s h.1 (level s)
level_sent s name now sub reply t h = absurd h

grown_published : (s : State) (producer : ℕ) (sequence : ℤ) (e : Entry) (body : _) (now : ℕ) (t : State) (duplicate : Bool) → e.position ≡ next_position s → t ≡ (if duplicate then s else with_message s e) → IsGrown s (Publish producer sequence body now) t
grown_published s producer sequence e body now t true next is = grown s _ t (level_as s t s is (level s))
grown_published s producer sequence e body now t false next is =
    subst (IsGrown s (Publish producer sequence body now)) (sym is) (record { name = refl; went = 0; gone = none_more s.gone; were_durable = omega arith; log = (e ∷ [], refl); durable = λ _. refl; logged = comes e next refl refl })

grown_trimmed : (s : State) (keep before most : ℕ) (r : Reply) (t : State) → Trims s keep before most r t → IsGrown s (Trim keep before most) t
grown_trimmed s keep before most (Trimmed all) t h =
    let are = are_going s keep before most h.0 in
    let low = are.visible in
    subst (IsGrown s (Trim keep before most)) (sym h.2)
    (record {
      name = refl;
      went = going s keep before most;
      gone = refl;
      were_durable = omega (arith, low);
      log = prefix_same (drop (going s keep before most) s.log);
      durable = λ _. omega (arith, low);
      logged = goes (going s keep before most) are.within refl refl;
    })
grown_trimmed s keep before most Untrimmed t h = grown s (Trim keep before most) t (level_as s t s h.1 (level s))
grown_trimmed s keep before most r t h = absurd h

pub grown_taken : (s : State) (e : Event) (r : Reply) (t : State) → Takes s e r t → IsGrown s e t
grown_taken s (AddProducer name base) r t h = grown s (AddProducer name base) t (level_as s t _ h.3.1 (record { name = refl; log = refl; durable = refl; gone = refl; ledger = refl }))
grown_taken s (DropProducer producer) r t h = grown s (DropProducer producer) t (level_as s t _ h.1 (record { name = refl; log = refl; durable = refl; gone = refl; ledger = refl }))
grown_taken s (Publish producer sequence body now) r t h =
    some_elim (find (is_producer producer) s.producers) _ (IsGrown s (Publish producer sequence body now) t) h (λ p found h.
    grown_published s producer sequence (message_of s p sequence body now) body now t (is_duplicate s p sequence) refl h.1)
grown_taken s Stored r t h = subst (IsGrown s Stored) (sym h.1) (record { name = refl; went = 0; gone = none_more s.gone; were_durable = omega arith; log = prefix_same s.log; durable = λ not. absurd (true≢false not); logged = remains refl refl })
grown_taken s (StoredTo count ordinal) r t h =
    subst (IsGrown s (StoredTo count ordinal)) (sym h.1) (record { name = refl; went = 0; gone = none_more s.gone; were_durable = omega arith; log = prefix_same s.log; durable = λ not. absurd (true≢false not); logged = remains refl refl })
grown_taken s Progress r t h = grown s Progress t (level_as s t s h.1 (level s))
grown_taken s (Subscribe name kind lvl flow ack_timeout nack_delay max_redeliver dead_topic initial ranges) r t h =
    grown s (Subscribe name kind lvl flow ack_timeout nack_delay max_redeliver dead_topic initial ranges) t
    (level_as s t _ h.1 (level_over s name (active_at s name) (with_member s kind ranges initial _) (record { name = refl; log = refl; durable = refl; gone = refl; ledger = refl })))
grown_taken s (Leave consumer) r t h =
    some_elim (find (is_member consumer) s.members) _ (IsGrown s (Leave consumer) t) h.1 (λ m found is.
    grown s (Leave consumer) t (level_as s t _ is (level_over s m.subscription (active_at s m.subscription) (without_member s consumer m.subscription) (record { name = refl; log = refl; durable = refl; gone = refl; ledger = refl }))))
grown_taken s (Permit consumer permits) r t h = grown s (Permit consumer permits) t (level_as s t _ h.1 (record { name = refl; log = refl; durable = refl; gone = refl; ledger = refl }))
grown_taken s (Ack consumer position) r t h = grown s (Ack consumer position) t (level_acks s consumer (position ∷ []) r t h)
grown_taken s (AckUpTo consumer position) r t h = grown s (AckUpTo consumer position) t (level_acks s consumer (positions_up_to position s.log) r t h)
grown_taken s (Nack consumer position now) r t h =
    some_elim (find (is_member consumer) s.members) _ (IsGrown s (Nack consumer position now) t) h.1 (λ m found is.
    grown s (Nack consumer position now) t (level_as s t _ is (record { name = refl; log = refl; durable = refl; gone = refl; ledger = refl })))
grown_taken s (Tick name now) r t h =
    some_elim (find (is_named name) s.subscriptions) _ (IsGrown s (Tick name now) t) h (λ sub found h. grown s (Tick name now) t (level_ticks s name now sub r t h))
grown_taken s (Seek name target) r t h = grown s (Seek name target) t (level_as s t _ h.1 (record { name = refl; log = refl; durable = refl; gone = refl; ledger = refl }))
grown_taken s (SeekTime name time) r t h = grown s (SeekTime name time) t (level_as s t _ h.1 (record { name = refl; log = refl; durable = refl; gone = refl; ledger = refl }))
grown_taken s (Skip name count) r t h =
    some_elim (find (is_named name) s.subscriptions) _ (IsGrown s (Skip name count) t) h (λ sub found h. grown s (Skip name count) t (level_as s t _ h.1 (record { name = refl; log = refl; durable = refl; gone = refl; ledger = refl })))
grown_taken s (DropSubscription name) r t h = grown s (DropSubscription name) t (level_as s t _ h.1 (record { name = refl; log = refl; durable = refl; gone = refl; ledger = refl }))
grown_taken s (event.Stats name) r t h =
    some_elim (find (is_named name) s.subscriptions) _ (IsGrown s (event.Stats name) t) h (λ sub found h. grown s (event.Stats name) t (level_as s t s h.1 (level s)))
grown_taken s (Trim keep before most) r t h = grown_trimmed s keep before most r t h
grown_taken s (SetRetention retention) r t h = grown s (SetRetention retention) t (level_as s t _ h.1 (record { name = refl; log = refl; durable = refl; gone = refl; ledger = refl }))
grown_taken s (Dispatch name now) r t h =
    some_elim (find (is_named name) s.subscriptions) _ (IsGrown s (Dispatch name now) t) h (λ sub found h. grown s (Dispatch name now) t (level_sent s name now sub r t h))
grown_taken s (Collect consumer) r t h = grown s (Collect consumer) t (level_as s t _ h.1 (record { name = refl; log = refl; durable = refl; gone = refl; ledger = refl }))
grown_taken s (DeadNext name) r t h =
    some_elim (find (is_named name) s.subscriptions) _ (IsGrown s (DeadNext name) t) h (λ sub found h. grown s (DeadNext name) t (level_as s t s h.1 (level s)))
grown_taken s (DeadDone name ordinal) r t h =
    some_elim (find (is_named name) s.subscriptions) _ (IsGrown s (DeadDone name ordinal) t) h (λ sub found h.
    some_elim (first_safe sub) _ (IsGrown s (DeadDone name ordinal) t) h.1 (λ d first is.
    grown s (DeadDone name ordinal) t (level_as s t _ is (record { name = refl; log = refl; durable = refl; gone = refl; ledger = refl }))))

pub step_grows : (s : State) (e : Event) (r : Reply) (t : State) → Step s e r t → IsGrown s e t
step_grows s e (Refused fault) t h = grown s e t (level_as s t s h.1 (level s))
step_grows s e r t h = grown_taken s e r t h.1
