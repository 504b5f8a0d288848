-- Which replies an event may have.
use Rattle.std.proofs.Common.{◌≡◌, Bool, true, false, List, refl, ap, ◌∙◌, sym, true≢false, ℕ, Some, None, Option}
use Rattle.std.specs.Prelude.{◌+◌, if◌then◌else◌}
use Rattle.std.specs.List.{find}
use Rattle.std.specs.Option.{option_map_or}
use Rattle.delivery_machine.specs.State.{State, Subscription}
use Rattle.delivery_machine.specs.State as state
use Rattle.position_core.specs.declared.message.Entry.{Entry}
use Rattle.delivery_machine.specs.Words.{is_named, is_producer, next_position}
use Rattle.delivery_machine.specs.Producing.{had}
use Rattle.delivery_machine.specs.Refusals.{is_duplicate}
use Rattle.delivery_machine.specs.Trimming.{Trims}
use Rattle.delivery_machine.specs.Dying.{next_letter}
use Rattle.delivery_machine.specs.Ticking.{Ticks}
use Rattle.delivery_machine.specs.Delivering.{Dispatches}
use Rattle.delivery_machine.specs.Run.{Step, Takes}
use Rattle.delivery_machine.specs.declared.event.Event.{Event}
use Rattle.delivery_machine.specs.declared.event.Event.TheVariants.{AddProducer, DropProducer, Publish, Stored, StoredTo, Progress, Subscribe, Leave, Permit, Ack, AckUpTo, Nack, Tick, Seek, SeekTime, Skip, DropSubscription, Stats, Dispatch, Collect, DeadNext, DeadDone, Trim, SetRetention}
use Rattle.delivery_machine.specs.declared.reply.Reply.{Reply}
use Rattle.delivery_machine.specs.declared.reply.Reply.TheVariants.{ProducerAdded, Subscribed, Published, Duplicate, Refused, Dead, NoDead}
use Rattle.delivery_machine.proofs.Firsts.{some_elim}
use Rattle.topic_shared.specs.Attached.{attaches, asks_to_attach}

-- the reply attaches nobody, or was asked to
abbrev fits : Event → Reply → Bool
fits e (ProducerAdded producer auto last) = asks_to_attach e
fits e (Subscribed consumer) = asks_to_attach e
fits e reply = true

fits_if : (e : Event) (b : Bool) (q r : Reply) → fits e q ≡ true → fits e r ≡ true → fits e (if b then q else r) ≡ true
fits_if e true q r first second = first
fits_if e false q r first second = second

ticks_fit : (s : State) (name : List ℕ) (now : ℕ) (sub : Subscription) (r : Reply) (t : State) → Ticks s name now sub r t → fits (Tick name now) r ≡ true
ticks_fit s name now sub (ProducerAdded producer auto last) t h = absurd h
ticks_fit s name now sub (Subscribed consumer) t h = absurd h
ticks_fit s name now sub reply t h = refl

sent_fits : (s : State) (name : List ℕ) (now : ℕ) (sub : Subscription) (r : Reply) (t : State) → Dispatches s name now sub r t → fits (Dispatch name now) r ≡ true
sent_fits s name now sub (ProducerAdded producer auto last) t h = absurd h
sent_fits s name now sub (Subscribed consumer) t h = absurd h
sent_fits s name now sub reply t h = refl

trim_fits : (s : State) (keep before most : ℕ) (r : Reply) (t : State) → Trims s keep before most r t → fits (Trim keep before most) r ≡ true
trim_fits s keep before most (ProducerAdded producer auto last) t h = absurd h
trim_fits s keep before most (Subscribed consumer) t h = absurd h
trim_fits s keep before most reply t h = refl

takes_fits : (s : State) (e : Event) (r : Reply) (t : State) → Takes s e r t → fits e r ≡ true
takes_fits s (AddProducer name base) r t h = ap (fits (AddProducer name base)) h.3.0
takes_fits s (DropProducer producer) r t h = ap (fits (DropProducer producer)) h.0
takes_fits s (Publish producer sequence body now) r t h =
    some_elim (find (is_producer producer) s.producers) _ (fits (Publish producer sequence body now) r ≡ true) h (λ p found h.
    ap (fits (Publish producer sequence body now)) h.0 ∙ fits_if (Publish producer sequence body now) (is_duplicate s p sequence) (Duplicate (had s)) (Published (next_position s) (had s + 1)) refl refl)
takes_fits s Stored r t h = ap (fits Stored) h.0
takes_fits s (StoredTo count ordinal) r t h = ap (fits (StoredTo count ordinal)) h.0
takes_fits s Progress r t h = ap (fits Progress) h.0
takes_fits s (Subscribe name kind level flow ack_timeout nack_delay max_redeliver dead_topic initial ranges) r t h =
    ap (fits (Subscribe name kind level flow ack_timeout nack_delay max_redeliver dead_topic initial ranges)) h.0
takes_fits s (Leave consumer) r t h = ap (fits (Leave consumer)) h.0
takes_fits s (Permit consumer permits) r t h = ap (fits (Permit consumer permits)) h.0
takes_fits s (Ack consumer position) r t h = ap (fits (Ack consumer position)) h.0
takes_fits s (AckUpTo consumer position) r t h = ap (fits (AckUpTo consumer position)) h.0
takes_fits s (Nack consumer position now) r t h = ap (fits (Nack consumer position now)) h.0
takes_fits s (Tick name now) r t h = some_elim (find (is_named name) s.subscriptions) _ (fits (Tick name now) r ≡ true) h (λ sub found h. ticks_fit s name now sub r t h)
takes_fits s (Seek name target) r t h = ap (fits (Seek name target)) h.0
takes_fits s (SeekTime name time) r t h = ap (fits (SeekTime name time)) h.0
takes_fits s (Skip name count) r t h = some_elim (find (is_named name) s.subscriptions) _ (fits (Skip name count) r ≡ true) h (λ sub found h. ap (fits (Skip name count)) h.0)
takes_fits s (DropSubscription name) r t h = ap (fits (DropSubscription name)) h.0
takes_fits s (Stats name) r t h = some_elim (find (is_named name) s.subscriptions) _ (fits (Stats name) r ≡ true) h (λ sub found h. ap (fits (Stats name)) h.0)
takes_fits s (Dispatch name now) r t h = some_elim (find (is_named name) s.subscriptions) _ (fits (Dispatch name now) r ≡ true) h (λ sub found h. sent_fits s name now sub r t h)
takes_fits s (Collect consumer) r t h = ap (fits (Collect consumer)) h.0
takes_fits s (DeadNext name) r t h =
    some_elim (find (is_named name) s.subscriptions) _ (fits (DeadNext name) r ≡ true) h (λ sub found h. shown (next_letter s sub) h.0)
  where
    shown : (o : Option (state.DeadLetter × Entry)) → r ≡ option_map_or (λ p. Dead p.1 p.0.target p.0.ordinal) o NoDead → fits (DeadNext name) r ≡ true
    shown None reply = ap (fits (DeadNext name)) reply
    shown (Some letter) reply = ap (fits (DeadNext name)) reply
takes_fits s (DeadDone name ordinal) r t h = some_elim (find (is_named name) s.subscriptions) _ (fits (DeadDone name ordinal) r ≡ true) h (λ sub found h. ap (fits (DeadDone name ordinal)) h.0)
takes_fits s (Trim keep before most) r t h = trim_fits s keep before most r t h
takes_fits s (SetRetention retention) r t h = ap (fits (SetRetention retention)) h.0

step_fits : (s : State) (e : Event) (r : Reply) (t : State) → Step s e r t → fits e r ≡ true
step_fits s e (Refused fault) t h = refl
step_fits s e reply t h = takes_fits s e reply t h.1

-- who is attached asked for it
pub attached_asked : (s : State) (e : Event) (r : Reply) (t : State) → Step s e r t → attaches r ≡ true → asks_to_attach e ≡ true
attached_asked s e (ProducerAdded producer auto last) t h is = step_fits s e (ProducerAdded producer auto last) t h
attached_asked s e (Subscribed consumer) t h is = step_fits s e (Subscribed consumer) t h
attached_asked s e reply t h is = absurd (true≢false (sym is))
