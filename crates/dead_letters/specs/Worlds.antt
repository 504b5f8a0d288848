-- Two topics and the couriers that move the letters of one subscription of the one to the other: what may happen, in any order.
use Rattle.std.specs.Prelude.{◌≡◌, ℕ, nat_le, ◌==◌, Bool, true, false, not, ◌&&◌, List, [], ◌∷◌, ◌++◌, ◌-◌, take, Option, Some, if◌then◌else◌, IsTrue}
use Rattle.std.specs.List.{find}
use Rattle.std.specs.Option.{option_map_or, option_and_then, option_to_list}
use Rattle.std.specs.Str.{bytes_eq}
use mathlib.Core.List.{IsPrefix}
use Rattle.position_core.specs.declared.topic_name.TopicName.{TopicName}
use Rattle.position_core.specs.declared.fault.Fault.{Fault}
use Rattle.position_core.specs.declared.message.Entry.{Entry}
use Rattle.position_core.specs.TopicName.{same_topic}
use Rattle.delivery_machine.specs.State.{State, DeadLetter, fresh}
use Rattle.delivery_machine.specs.Words.{is_producer, is_named}
use Rattle.delivery_machine.specs.Producing.{had}
use Rattle.delivery_machine.specs.Dying.{first_safe}
use Rattle.delivery_machine.specs.Snapshot.{snapshot_of, restarted}
use Rattle.delivery_machine.specs.Run.{Answers}
use Rattle.delivery_machine.specs.declared.event.Event.{Event}
use Rattle.delivery_machine.specs.declared.event.Event.TheVariants.{AddProducer, DropProducer, Publish, Stored, StoredTo, DeadDone}
use Rattle.delivery_machine.specs.declared.reply.Reply.{Reply}
use Rattle.delivery_machine.specs.declared.reply.Reply.TheVariants.{Done, Refused}
use Rattle.topic_lives.specs.Deleting.{IsDeserted, IsDeletable, made_again}
use Rattle.dead_letters.specs.declared.route.Route.{Route}
use Rattle.dead_letters.specs.declared.hand.Hand.{Hand}
use Rattle.dead_letters.specs.declared.hand.Hand.TheVariants.{Empty}
use Rattle.dead_letters.specs.declared.moving.Side.{Side}
use Rattle.dead_letters.specs.declared.moving.Side.TheVariants.{Source, Target}
use Rattle.dead_letters.specs.Moving.{after, move_of, target_of}

-- ---- the topics

-- a topic as it is, and the messages that stood before those of its log and went from it, in their order
pub record Topic : Type 0 where
  pub state : State
  pub past : List Entry

-- all messages that the topic has had, in their order
abbrev pub everything : Topic → List Entry
everything a = a.past ++ a.state.log

-- the topic once it is so: of the first messages of its log so many went as more are gone than before
abbrev pub in_state : Topic → State → Topic
in_state a s = record { state = s; past = a.past ++ take (s.gone - a.state.gone) a.state.log }

-- whatever a topic answers, the messages that it has had go on
abbrev pub MessagesGoOn : Type 0
MessagesGoOn =
    (a : Topic) (event : Event) (reply : Reply) (s : State) → Answers a.state event reply s → IsPrefix (everything a) (everything (in_state a s))

-- a topic with nothing in it
abbrev pub new_topic : TopicName → ℕ → Topic
new_topic name ledger_size = record { state = fresh name ledger_size; past = [] }

-- the topic as it goes on from its snapshot of this moment
abbrev pub gone_on : Topic → Topic
gone_on a = record { state = restarted (snapshot_of a.state); past = a.past }

-- the topic as it begins again from what is left of it once it is deleted: all its messages went
abbrev pub begun_again : Topic → Topic
begun_again a = record { state = made_again a.state; past = everything a }

-- ---- the world

-- The topic that letters die in and the one that they go to, each as it is, as it would go on from the snapshot that was taken of
-- it last, and as it goes on from what is stored; the deaths of the subscription that were done with, in their order, and those
-- that were when each snapshot was taken; and what each courier of the subscription has in its hand, by the courier's number: there
-- may be any number of them.
pub record World : Type 0 where
  pub source : Topic
  pub source_viewed : Topic
  pub source_stored : Topic
  pub target : Topic
  pub target_viewed : Topic
  pub target_stored : Topic
  pub moved : List DeadLetter
  pub moved_viewed : List DeadLetter
  pub moved_stored : List DeadLetter
  pub hands : ℕ → Hand

-- nobody has a letter
abbrev pub idle : ℕ → Hand
idle number = Empty

-- two topics with nothing in them, of which nothing is stored
abbrev pub opened : TopicName → TopicName → ℕ → World
opened source target ledger_size = record {
  source = new_topic source ledger_size;
  source_viewed = new_topic source ledger_size;
  source_stored = new_topic source ledger_size;
  target = new_topic target ledger_size;
  target_viewed = new_topic target ledger_size;
  target_stored = new_topic target ledger_size;
  moved = [];
  moved_viewed = [];
  moved_stored = [];
  hands = idle;
}

-- ---- what may happen at a topic by itself

-- the first letter of the subscription that is safe
abbrev pub first_letter : State → List ℕ → Option DeadLetter
first_letter s name = option_and_then first_safe (find (is_named name) s.subscriptions)

-- the letter goes to the topic
abbrev pub is_for : TopicName → DeadLetter → Bool
is_for target d = same_topic d.target target

-- a store says of no message and of no death that it is stored that is not
abbrev pub says_stored : State → State → Event → Bool
says_stored stored s Stored = nat_le (had s) (had stored) && nat_le s.next_ordinal stored.next_ordinal
says_stored stored s (StoredTo count ordinal) = nat_le count (had stored) && nat_le ordinal stored.next_ordinal
says_stored stored s event = true

-- the letters of the subscription that go to the topic are left to the couriers: nobody else is done with the first one
abbrev pub leaves_letters : Route → TopicName → State → Event → Bool
leaves_letters route target s (DeadDone name ordinal) =
    not (bytes_eq name route.subscription && option_map_or (λ d. d.ordinal == ordinal && is_for target d) (first_letter s name) false)
leaves_letters route target s event = true

-- the producer has the couriers' name
abbrev pub is_couriers : Route → State → ℕ → Bool
is_couriers route s producer = option_map_or (λ p. bytes_eq p.name route.name) (find (is_producer producer) s.producers) false

-- the couriers' name, and who bears it, are left to the couriers
abbrev pub leaves_couriers : Route → State → Event → Bool
leaves_couriers route s (AddProducer (Some name) base) = not (bytes_eq name route.name)
leaves_couriers route s (DropProducer producer) = not (is_couriers route s producer)
leaves_couriers route s (Publish producer sequence body now) = not (is_couriers route s producer)
leaves_couriers route s event = true

-- the deaths of the subscription that the answer does away with
abbrev pub done_with : List ℕ → State → Event → Reply → List DeadLetter
done_with subscription s (DeadDone name ordinal) Done = if bytes_eq name subscription then option_to_list (first_letter s name) else []
done_with subscription s event reply = []

-- ---- what may happen

pub data Act : Type 0 where
  -- anything that a topic may be asked
  at_source : Event → Reply → Act
  at_target : Event → Reply → Act
  -- a snapshot is taken of a topic, under its lock, and stored later; then the topic is told so by an event
  view_source : Act
  view_target : Act
  store_source : Act
  store_target : Act
  -- a topic at which nobody is goes on from a snapshot of this moment, which is stored
  reopen_source : Act
  reopen_target : Act
  -- a topic that may be deleted is deleted, what is left of it is stored in the same moment, and it begins again from that
  delete_source : Act
  delete_target : Act
  -- a courier of the number makes its next move, at a moment
  courier : ℕ → ℕ → Reply → Act
  -- it is refused before it comes to the topic, which could not be opened, or had no seat, no room or no memory for it
  turned_away : ℕ → Fault → Act
  -- a courier is let go with what it has in its hand
  let_go : ℕ → Act
  -- everything that is not stored is gone
  crash : Act

-- a letter for another topic is let go
abbrev pub kept_for : TopicName → Hand → Hand
kept_for target hand = option_map_or (λ name. if same_topic name target then hand else Empty) (target_of hand) hand

abbrev pub with_hand : ℕ → Hand → (ℕ → Hand) → ℕ → Hand
with_hand mover hand hands number = if number == mover then hand else hands number

-- one answer at the topic that letters die in, and at the one that they go to
abbrev pub AnswersAtSource : Route → World → Event → Reply → (ℕ → Hand) → World → Type 0
AnswersAtSource route w event reply hands v =
    (s : State) × Answers w.source.state event reply s
    × (v ≡ record w { source = in_state w.source s; moved = w.moved ++ done_with route.subscription w.source.state event reply; hands = hands })

abbrev pub AnswersAtTarget : World → Event → Reply → (ℕ → Hand) → World → Type 0
AnswersAtTarget w event reply hands v = (s : State) × Answers w.target.state event reply s × (v ≡ record w { target = in_state w.target s; hands = hands })

abbrev pub AnswersAt : Route → Side → World → Event → Reply → (ℕ → Hand) → World → Type 0
AnswersAt route Source w event reply hands v = AnswersAtSource route w event reply hands v
AnswersAt route Target w event reply hands v = AnswersAtTarget w event reply hands v

-- what the act makes of the world
abbrev pub Happens : Route → TopicName → World → Act → World → Type 0
Happens route target w (at_source event reply) v =
    IsTrue (says_stored w.source_stored.state w.source.state event) × IsTrue (leaves_letters route target w.source.state event)
    × AnswersAtSource route w event reply w.hands v
Happens route target w (at_target event reply) v =
    IsTrue (says_stored w.target_stored.state w.target.state event) × IsTrue (leaves_couriers route w.target.state event)
    × AnswersAtTarget w event reply w.hands v
Happens route target w view_source v = v ≡ record w { source_viewed = gone_on w.source; moved_viewed = w.moved }
Happens route target w view_target v = v ≡ record w { target_viewed = gone_on w.target }
Happens route target w store_source v = v ≡ record w { source_stored = w.source_viewed; moved_stored = w.moved_viewed }
Happens route target w store_target v = v ≡ record w { target_stored = w.target_viewed }
Happens route target w reopen_source v =
    IsDeserted w.source.state
    × (v ≡ record w {
      source = gone_on w.source;
      source_viewed = gone_on w.source;
      source_stored = gone_on w.source;
      moved_viewed = w.moved;
      moved_stored = w.moved;
    })
Happens route target w reopen_target v =
    IsDeserted w.target.state × (v ≡ record w { target = gone_on w.target; target_viewed = gone_on w.target; target_stored = gone_on w.target })
Happens route target w delete_source v =
    IsDeletable w.source.state
    × (v ≡ record w {
      source = begun_again w.source;
      source_viewed = begun_again w.source;
      source_stored = begun_again w.source;
      moved_viewed = w.moved;
      moved_stored = w.moved;
    })
Happens route target w delete_target v =
    IsDeletable w.target.state
    × (v ≡ record w { target = begun_again w.target; target_viewed = begun_again w.target; target_stored = begun_again w.target })
Happens route target w (courier number now reply) v =
    let next = move_of route (w.hands number) now in
    AnswersAt route next.side w next.event reply (with_hand number (kept_for target (after (w.hands number) reply)) w.hands) v
Happens route target w (turned_away number fault) v = v ≡ record w { hands = with_hand number (after (w.hands number) (Refused fault)) w.hands }
Happens route target w (let_go number) v = v ≡ record w { hands = with_hand number Empty w.hands }
Happens route target w crash v =
    v ≡ record w {
      source = w.source_stored;
      source_viewed = w.source_stored;
      target = w.target_stored;
      target_viewed = w.target_stored;
      moved = w.moved_stored;
      moved_viewed = w.moved_stored;
      hands = idle;
    }

-- one act after the other
abbrev pub AllHappen : Route → TopicName → World → List Act → World → Type 0
AllHappen route target w [] v = v ≡ w
AllHappen route target w (act ∷ acts) v = (mid : World) × Happens route target w act mid × AllHappen route target mid acts v
