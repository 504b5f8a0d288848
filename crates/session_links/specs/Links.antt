-- What a session takes from its connection and gives to it, and what it asks of its topic.
use Rattle.std.specs.Prelude.{ℕ, List, [], ◌∷◌, ◌++◌, Bool, true, false, ◌≡◌, ◌⊎◌, Option, None, option_map, Result, Ok, Err}
use Rattle.delivery_machine.specs.declared.event.Event.{Event}
use Rattle.delivery_machine.specs.declared.reply.Reply.{Reply}
use Rattle.delivery_machine.specs.declared.reply.Reply.TheVariants.{Refused}
use Rattle.position_core.specs.declared.fault.Fault.{Fault}
use Rattle.session_links.specs.declared.conn.Incoming.{Incoming}
use Rattle.session_links.specs.declared.conn.Incoming.TheVariants.{Nothing, Text, Gone}
use Rattle.session_links.specs.declared.request.Request.{Request}
use Rattle.session_links.specs.declared.request.Request.TheVariants.{Event as OfEvent}

-- what came when a session received once: a text, nothing yet, or the end of the connection
pub data Receipt : Type 0 where
  came : List ℕ → Receipt
  nothing : Receipt
  gone : Receipt

-- a close, with its code and its reason
pub record Closing : Type 0 where
  pub code : ℕ
  pub reason : List ℕ

-- what was received of a connection, sent to it, and closed of it, each in order
pub record Exchange : Type 0 where
  pub received : List Receipt
  pub sent : List (List ℕ)
  pub closes : List Closing

-- a request, and what it was answered
pub record Call : Type 0 where
  pub request : Request
  pub reply : Reply

-- an event, and what it was answered
abbrev pub event_call : Event → Reply → Call
event_call event reply = record { request = OfEvent event; reply = reply }

abbrev pub receipt_of : Incoming → Receipt
receipt_of Nothing = nothing
receipt_of (Text bytes) = came bytes.items
receipt_of Gone = gone

-- one thing more was received
abbrev pub with_receipt : Receipt → Exchange → Exchange
with_receipt r e = record e { received = e.received ++ r ∷ [] }

-- one text more was sent
abbrev pub with_sent : List ℕ → Exchange → Exchange
with_sent bytes e = record e { sent = e.sent ++ bytes ∷ [] }

-- it was closed
abbrev pub with_close : ℕ → List ℕ → Exchange → Exchange
with_close code reason e = record e { closes = e.closes ++ (record { code = code; reason = reason }) ∷ [] }

-- nothing more was told
abbrev pub same : Exchange → Exchange
same e = e

-- whether the client is there still
abbrev pub goes_on : Incoming → Bool
goes_on Gone = false
goes_on incoming = true

-- a caller that fails refuses the request
abbrev pub reply_of : Result Reply Fault → Reply
reply_of (Ok reply) = reply
reply_of (Err fault) = Refused fault

-- what is told afterwards is what was told before, and this more; or nothing is told any longer
abbrev pub Tells : {A : Type 0} → (A → A) → Option A → Option A → Type 0
Tells more before after = (after ≡ None) ⊎ (after ≡ option_map more before)

-- the calls, and this one
abbrev pub with_call : Call → List Call → List Call
with_call call calls = calls ++ call ∷ []
