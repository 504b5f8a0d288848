-- How a dead letter is moved: what the courier asks next, and what it makes of the answer.
use Rattle.std.specs.Prelude.{ℕ, ℤ, pos, negsuc, min, List, ◌++◌, codes, Option, Some, None, nat_le, if◌then◌else◌}
use Rattle.position_core.specs.declared.topic_name.TopicName.{TopicName}
use Rattle.delivery_machine.specs.declared.event.Event.{Event}
use Rattle.delivery_machine.specs.declared.event.Event.TheVariants.{AddProducer, DropProducer, Publish, Progress, DeadNext, DeadDone}
use Rattle.delivery_machine.specs.declared.reply.Reply.{Reply}
use Rattle.delivery_machine.specs.declared.reply.Reply.TheVariants.{ProducerAdded, Published, Duplicate, Progress as InProgress, Dead}
use Rattle.dead_letters.specs.declared.route.Route.{Route}
use Rattle.dead_letters.specs.declared.hand.Hand.{Hand}
use Rattle.dead_letters.specs.declared.hand.Hand.TheVariants.{Empty, Holds, Joined, Copied, Leaves, Waits, Moved}
use Rattle.dead_letters.specs.declared.hand.Letter.{Letter}
use Rattle.dead_letters.specs.declared.moving.Move.{Move}
use Rattle.dead_letters.specs.declared.moving.Side.TheVariants.{Source, Target}

-- the courier's name as a producer, by the topic and the subscription that letters died in
abbrev pub courier_name : TopicName → List ℕ → List ℕ
courier_name source subscription =
    codes "dlq/" ++ source.tenant ++ codes "/" ++ source.namespace ++ codes "/" ++ source.topic ++ codes "/" ++ subscription

-- the sequence number of a letter's copy is its ordinal
abbrev pub sequence_of : ℕ → ℤ
sequence_of ordinal = pos (min ordinal 9223372036854775807)

abbrev pub at_source : Event → Move
at_source event = record { side = Source; event = event }

abbrev pub at_target : Event → Move
at_target event = record { side = Target; event = event }

-- the topic that the letter in the hand goes to
abbrev pub target_of : Hand → Option TopicName
target_of Empty = None
target_of (Holds letter) = Some letter.target
target_of (Joined letter producer) = Some letter.target
target_of (Copied letter producer length) = Some letter.target
target_of (Leaves producer) = None
target_of (Waits letter length) = Some letter.target
target_of (Moved letter) = Some letter.target

-- what the courier asks next, and where
abbrev pub move_of : Route → Hand → ℕ → Move
move_of route Empty now = at_source (DeadNext route.subscription)
move_of route (Holds letter) now = at_target (AddProducer (Some route.name) (negsuc 0))
move_of route (Joined letter producer) now = at_target (Publish producer (sequence_of letter.ordinal) letter.message.body now)
move_of route (Copied letter producer length) now = at_target (DropProducer producer)
move_of route (Leaves producer) now = at_target (DropProducer producer)
move_of route (Waits letter length) now = at_target Progress
move_of route (Moved letter) now = at_source (DeadDone route.subscription letter.ordinal)

-- the copy is stored, or is to be waited for
abbrev pub stored_to : Letter → ℕ → ℕ → Hand
stored_to letter length durable = if nat_le length durable then Moved letter else Waits letter length

-- what the answer leaves in the hand
abbrev pub after : Hand → Reply → Hand
after Empty (Dead message target ordinal) = Holds (record { message = message; target = target; ordinal = ordinal })
after Empty reply = Empty
after (Holds letter) (ProducerAdded producer auto last) = Joined letter producer
after (Holds letter) reply = Empty
after (Joined letter producer) (Published position length) = Copied letter producer length
after (Joined letter producer) (Duplicate length) = Copied letter producer length
after (Joined letter producer) reply = Leaves producer
after (Copied letter producer length) reply = Waits letter length
after (Leaves producer) reply = Empty
after (Waits letter length) (InProgress durable all) = stored_to letter length durable
after (Waits letter length) reply = Empty
after (Moved letter) reply = Empty
