-- How many bytes messages have, and which publish is too much beside those that a topic keeps.
use Rattle.std.specs.Prelude.{ℕ, ◌+◌, nat_lt, Bool, false, not, ◌&&◌, List, [], ◌∷◌, ◌++◌, length, set, slice_get, sum_by, Option, Some, None, ℤ, int_le}
use Rattle.std.specs.Option.{option_flatten, option_map_or}
use Rattle.position_core.specs.declared.body.Content.{Content}
use Rattle.position_core.specs.declared.message.Entry.{Entry}
use Rattle.delivery_machine.specs.declared.event.Event.{Event}
use Rattle.delivery_machine.specs.declared.event.Event.TheVariants.{AddProducer, Publish}
use Rattle.delivery_machine.specs.declared.reply.Reply.{Reply}
use Rattle.delivery_machine.specs.declared.reply.Reply.TheVariants.{ProducerAdded, Published}
use Rattle.broker_parts.specs.declared.weight.Weight.{Weight}
use Rattle.broker_parts.specs.declared.weight.Weight.TheVariants.{Nothing, Producer, Message}

-- the bytes of a property: of its name and of its value
abbrev pub property_size : List ℕ × List ℕ → ℕ
property_size p = length p.0 + length p.1

-- the bytes of a message: of its key, of its properties and of its payload
abbrev pub content_size : Content → ℕ
content_size c = option_map_or length c.key 0 + sum_by property_size c.properties + length c.payload

abbrev pub entry_size : Entry → ℕ
entry_size e = content_size e.body

-- what an event brings to a topic
abbrev pub weight_of : Event → Weight
weight_of (AddProducer name base) = Producer
weight_of (Publish producer sequence body now) = Message sequence (content_size body)
weight_of event = Nothing

-- the last number of the producer's name at the seat
abbrev pub last_at : List (Option ℤ) → ℕ → Option ℤ
last_at lasts seat = option_flatten (slice_get lasts seat)

-- the number is not above the last one
abbrev pub is_repeated : Option ℤ → ℤ → Bool
is_repeated None sequence = false
is_repeated (Some last) sequence = int_le sequence last

-- a message is too much where it and those that are kept, which have so many bytes, have more than the most, unless it is a duplicate
abbrev pub is_too_much : ℕ → ℕ → List (Option ℤ) → ℕ → Weight → Bool
is_too_much most bytes lasts seat (Message sequence size) = nat_lt most (bytes + size) && not (is_repeated (last_at lasts seat) sequence)
is_too_much most bytes lasts seat weight = false

-- the sequence number of the message, and its bytes
abbrev pub sequence_of : Weight → Option ℤ
sequence_of (Message sequence size) = Some sequence
sequence_of weight = None

abbrev pub size_of : Weight → Option ℕ
size_of (Message sequence size) = Some size
size_of weight = None

-- the last number of the producer's name after an answer, where it tells one
abbrev pub last_after : Weight → Reply → Option ℤ
last_after weight (ProducerAdded producer auto last) = Some last
last_after weight (Published position length) = sequence_of weight
last_after weight reply = None

-- the bytes of what is kept by an answer
abbrev pub size_after : Weight → Reply → Option ℕ
size_after weight (Published position length) = size_of weight
size_after weight reply = None

-- the last numbers at the seats, after an answer
abbrev pub lasts_after : List (Option ℤ) → ℕ → Weight → Reply → List (Option ℤ)
lasts_after lasts seat weight reply = option_map_or (λ last. set lasts seat (Some last)) (last_after weight reply) lasts

-- the sizes of what is kept, after an answer
abbrev pub sizes_after : List ℕ → Weight → Reply → List ℕ
sizes_after sizes weight reply = option_map_or (λ size. sizes ++ size ∷ []) (size_after weight reply) sizes
