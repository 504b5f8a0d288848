-- Which events always have an answer, and which answer is none.
use Rattle.std.specs.Prelude.{Bool, true, false}
use Rattle.delivery_machine.specs.declared.event.Event.{Event}
use Rattle.delivery_machine.specs.declared.event.Event.TheVariants.{DropProducer, Leave}
use Rattle.delivery_machine.specs.declared.reply.Reply.{Reply}
use Rattle.delivery_machine.specs.declared.reply.Reply.TheVariants.{Refused}
use Rattle.position_core.specs.declared.fault.Fault.TheVariants.{NoMemory}

-- the event detaches a producer or a consumer, if it is attached
abbrev pub is_farewell : Event → Bool
is_farewell (DropProducer producer) = true
is_farewell (Leave consumer) = true
is_farewell event = false

-- the answer of want of memory, which is no step
abbrev pub is_no_memory : Reply → Bool
is_no_memory (Refused NoMemory) = true
is_no_memory reply = false
