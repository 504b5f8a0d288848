-- What a line and a draft stand for, however they are kept.
use Rattle.std.specs.Prelude.{◌≡◌, false, ⊤}
use Rattle.delivery_machine.specs.declared.event.Event.{Event}
use Rattle.delivery_machine.specs.declared.reply.Reply.{Reply}
use Rattle.topic_shared.specs.declared.call.Call.{Call}
use Rattle.topic_shared.specs.declared.call.Call.TheVariants.{Short, Long}
use Rattle.topic_shared.specs.declared.call.Asked.{Asked}
use Rattle.topic_shared.specs.declared.call.Asked.TheVariants as asked
use Rattle.topic_shared.specs.Short.{is_long, event_of, reply_of}

abbrev pub event_in : Call → Event
event_in (Short event reply) = event_of event
event_in (Long call) = call.value.event

abbrev pub reply_in : Call → Reply
reply_in (Short event reply) = reply_of reply
reply_in (Long call) = call.value.reply

-- the event that is yet to be answered
abbrev pub event_asked : Asked → Event
event_asked (asked.Short event) = event
event_asked (asked.Long call) = call.value.event

-- only an event that may be kept in short has no box
abbrev pub HasRoom : Asked → Type 0
HasRoom (asked.Short event) = is_long event ≡ false
HasRoom (asked.Long call) = ⊤
