-- Who is attached to a topic, and the lines of its journal that an event needs for them.
use Rattle.std.specs.Prelude.{ℕ, Bool, true, false, ◌==◌, List, if◌then◌else◌}
use Rattle.std.specs.List.{list_any}
use Rattle.position_core.specs.Numbers.{ProducerNumber, ConsumerNumber}
use Rattle.delivery_machine.specs.declared.event.Event.{Event}
use Rattle.delivery_machine.specs.declared.event.Event.TheVariants.{AddProducer, DropProducer, Subscribe, Leave}
use Rattle.delivery_machine.specs.declared.reply.Reply.{Reply}
use Rattle.delivery_machine.specs.declared.reply.Reply.TheVariants.{ProducerAdded, Subscribed}

abbrev pub is_among : List ℕ → ℕ → Bool
is_among numbers number = list_any (λ n. n == number) numbers

-- the event detaches one of these producers or consumers
abbrev pub detaches : List ProducerNumber → List ConsumerNumber → Event → Bool
detaches producers consumers (DropProducer producer) = is_among producers producer
detaches producers consumers (Leave consumer) = is_among consumers consumer
detaches producers consumers event = false

-- the event asks to be attached
abbrev pub asks_to_attach : Event → Bool
asks_to_attach (AddProducer name base) = true
asks_to_attach (Subscribe name kind level flow ack_timeout nack_delay max_redeliver dead_topic initial ranges) = true
asks_to_attach event = false

-- the reply attaches a producer or a consumer
abbrev pub attaches : Reply → Bool
attaches (ProducerAdded producer auto last) = true
attaches (Subscribed consumer) = true
attaches reply = false

-- the lines that an event needs beside those that are written or kept: who is attached has one kept for the end
abbrev pub needs : List ProducerNumber → List ConsumerNumber → Event → ℕ
needs producers consumers event =
    if detaches producers consumers event then 0 else if asks_to_attach event then 2 else 1
