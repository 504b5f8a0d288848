-- Steps and runs of the delivery machine.
use Rattle.std.specs.Prelude.{◌≡◌, List, [], ◌∷◌, Some, None, IsTrue, IsSomeAnd}
use Rattle.std.specs.List.{find}
use Rattle.position_core.specs.declared.fault.Fault.TheVariants.{NoMemory}
use Rattle.position_core.specs.Flow.{begun}
use Rattle.delivery_machine.specs.State.{State}
use Rattle.delivery_machine.specs.Words.{is_producer, is_named}
use Rattle.delivery_machine.specs.Refusals.{refusal_of, takes_memory}
use Rattle.delivery_machine.specs.Producing.{AddsProducer, DropsProducer, Publishes, Stores, StoresTo, Progresses}
use Rattle.delivery_machine.specs.Joining.{Subscribes, Leaves, Permits}
use Rattle.delivery_machine.specs.Acknowledging.{Acks, positions_up_to}
use Rattle.delivery_machine.specs.Delivering.{Dispatches, Collects}
use Rattle.delivery_machine.specs.Ticking.{Nacks, Ticks}
use Rattle.delivery_machine.specs.Seeking.{Seeks, SeeksTime, Skips, Drops}
use Rattle.delivery_machine.specs.Statistics.{ShowsStatistics}
use Rattle.delivery_machine.specs.Trimming.{Trims, SetsRetention}
use Rattle.delivery_machine.specs.Dying.{ShowsLetter, MovesLetter}
use Rattle.delivery_machine.specs.declared.event.Event.{Event}
use Rattle.delivery_machine.specs.declared.event.Event.TheVariants.{AddProducer, DropProducer, Publish, Stored, StoredTo, Progress, Subscribe, Leave, Permit, Ack, AckUpTo, Nack, Tick, Seek, SeekTime, Skip, DropSubscription, Stats, Trim, SetRetention, Dispatch, Collect, DeadNext, DeadDone}
use Rattle.delivery_machine.specs.declared.reply.Reply.{Reply}
use Rattle.delivery_machine.specs.declared.reply.Reply.TheVariants.{Refused}

-- what an event that is not refused does
abbrev pub Takes : State → Event → Reply → State → Type 0
Takes s (AddProducer name base) r t = AddsProducer s name base r t
Takes s (DropProducer producer) r t = DropsProducer s producer r t
Takes s (Publish producer sequence body now) r t = IsSomeAnd (find (is_producer producer) s.producers) (λ p. Publishes s p sequence body now r t)
Takes s Stored r t = Stores s r t
Takes s (StoredTo count ordinal) r t = StoresTo s count ordinal r t
Takes s Progress r t = Progresses s r t
Takes s (Subscribe name kind level flow ack_timeout nack_delay max_redeliver dead_topic initial ranges) r t =
    Subscribes s kind ranges initial (record {
      number = s.next_consumer;
      subscription = name;
      level = level;
      flow = begun flow;
      ack_timeout = ack_timeout;
      nack_delay = nack_delay;
      max_redeliver = max_redeliver;
      dead_topic = dead_topic;
      out = [];
    }) r t
Takes s (Leave consumer) r t = Leaves s consumer r t
Takes s (Permit consumer permits) r t = Permits s consumer permits r t
Takes s (Ack consumer position) r t = Acks s consumer (position ∷ []) r t
Takes s (AckUpTo consumer position) r t = Acks s consumer (positions_up_to position s.log) r t
Takes s (Nack consumer position now) r t = Nacks s consumer position now r t
Takes s (Tick name now) r t = IsSomeAnd (find (is_named name) s.subscriptions) (λ sub. Ticks s name now sub r t)
Takes s (Seek name target) r t = Seeks s name target r t
Takes s (SeekTime name time) r t = SeeksTime s name time r t
Takes s (Skip name count) r t = IsSomeAnd (find (is_named name) s.subscriptions) (λ sub. Skips s name count sub r t)
Takes s (DropSubscription name) r t = Drops s name r t
Takes s (Stats name) r t = IsSomeAnd (find (is_named name) s.subscriptions) (λ sub. ShowsStatistics s name sub r t)
Takes s (Trim keep before most) r t = Trims s keep before most r t
Takes s (SetRetention retention) r t = SetsRetention s retention r t
Takes s (Dispatch name now) r t = IsSomeAnd (find (is_named name) s.subscriptions) (λ sub. Dispatches s name now sub r t)
Takes s (Collect consumer) r t = Collects s consumer r t
Takes s (DeadNext name) r t = IsSomeAnd (find (is_named name) s.subscriptions) (λ sub. ShowsLetter s sub r t)
Takes s (DeadDone name ordinal) r t = IsSomeAnd (find (is_named name) s.subscriptions) (λ sub. MovesLetter s name sub r t)

-- a refusal leaves the state as it was
abbrev pub Step : State → Event → Reply → State → Type 0
Step s event (Refused fault) t = (refusal_of s event ≡ Some fault) × (t ≡ s)
Step s event reply t = (refusal_of s event ≡ None) × Takes s event reply t

-- being out of memory is no step: it comes only from an event that takes memory and is not refused, and leaves the state as it was
abbrev pub Answers : State → Event → Reply → State → Type 0
Answers s event (Refused NoMemory) t = IsTrue (takes_memory event) × (refusal_of s event ≡ None) × (t ≡ s)
Answers s event reply t = Step s event reply t

-- each event is answered in turn
abbrev pub Run : State → List Event → List Reply → State → Type 0
Run s [] [] t = t ≡ s
Run s (event ∷ events) (reply ∷ replies) t = (mid : State) × Answers s event reply mid × Run mid events replies t
Run s [] (reply ∷ replies) t = ⊥
Run s (event ∷ events) [] t = ⊥
