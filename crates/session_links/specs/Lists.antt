-- What a connection over lists tells, and a caller over a topic.
use Rattle.std.specs.Prelude.{◌≡◌, List, [], map, string_bytes, Option, Some, None, Result, Ok, Err}
use Rattle.position_core.specs.declared.fault.Fault.{Fault}
use Rattle.position_core.specs.declared.fault.Fault.TheVariants.{BadRoute, NoSession}
use Rattle.delivery_machine.specs.State.{State}
use Rattle.delivery_machine.specs.Run.{Answers}
use Rattle.delivery_machine.specs.declared.event.Event.{Event}
use Rattle.delivery_machine.specs.declared.reply.Reply.{Reply}
use Rattle.delivery_machine.specs.declared.reply.Reply.TheVariants.{Done, Refused}
use Rattle.session_links.specs.Links.{Call, Closing, Exchange, receipt_of}
use Rattle.session_links.specs.Creating.{MayCreate}
use Rattle.session_links.specs.Looking.{Shows}
use Rattle.session_links.specs.declared.list_conn.Closed.{Closed}
use Rattle.session_links.specs.declared.list_conn.Told.{Told}
use Rattle.session_links.specs.declared.request.Request.{Request}
use Rattle.session_links.specs.declared.request.Request.TheVariants.{BackUp, CreateSubscription, DeleteTopic, Disconnect, Event as OfEvent, Peek}
use Rattle.session_links.specs.declared.topic_caller.Line.{Line}
use Rattle.session_links.specs.declared.topic_caller.Lines.{Lines}

-- a close of the list
abbrev pub closing_of : Closed → Closing
closing_of closed = record { code = closed.code; reason = string_bytes closed.reason }

-- nothing came or went
abbrev pub nothing_yet : Exchange
nothing_yet = record { received = []; sent = []; closes = [] }

-- what the lists have
abbrev pub exchange_of : Told → Exchange
exchange_of told = record { received = map receipt_of told.received.items; sent = map string_bytes told.sent.items; closes = map closing_of told.closes.items }

-- a call of the list
abbrev pub call_of : Line → Call
call_of line = record { request = line.request; reply = line.reply }

-- what the lines have
abbrev pub calls_of : Lines → List Call
calls_of lines = map call_of lines.items.items

-- the topic's answer to an event
abbrev pub Handed : State → Event → Result Reply Fault → State → Type 0
Handed s event (Ok reply) t = Answers s event reply t
Handed s event (Err fault) t = ⊥

-- The topic answers events, those by which a subscription is made among them, and is looked at. It stays as it is where it is to be deleted,
-- nobody else is there who could be told to go, and there is no database. Or else every request is refused so.
abbrev pub Asks : Option Fault → State → Request → Result Reply Fault → State → Type 0
Asks None s (OfEvent event) answer t = Handed s event answer t
Asks None s (CreateSubscription name target) answer t = MayCreate Handed name target s answer t
Asks None s (Peek name count) answer t = Shows s name count answer × (t ≡ s)
Asks None s (Disconnect session) answer t = (answer ≡ Ok (Refused NoSession)) × (t ≡ s)
Asks None s BackUp answer t = (answer ≡ Ok (Refused BadRoute)) × (t ≡ s)
Asks None s DeleteTopic answer t = (answer ≡ Ok Done) × (t ≡ s)
Asks (Some refusal) s request answer t = (answer ≡ Err refusal) × (t ≡ s)
