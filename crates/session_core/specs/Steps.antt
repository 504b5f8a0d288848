-- The steps of a turn, as its private functions tell them: what each adds to the turn, and to what the session holds.
use Rattle.std.specs.Prelude.{◌≡◌, ◌⊎◌, ℕ, ◌≤◌, List, [], ◌∷◌, ◌++◌, length, map, All, Bool, true, false, ◌&&◌, Option, Some, None, IsSome, Result, Ok, Err, option_map, max}
use Rattle.std.specs.Option.{option_or}
use Rattle.position_core.specs.declared.fault.Fault.{Fault}
use Rattle.position_core.specs.declared.fault.Fault.TheVariants.{NoMemory}
use Rattle.delivery_machine.specs.declared.event.Event.{Event}
use Rattle.delivery_machine.specs.declared.event.Event.TheVariants.{Collect, Dispatch, Progress, Tick}
use Rattle.delivery_machine.specs.declared.reply.Reply.{Reply}
use Rattle.session_links.specs.declared.request.Request.{Request}
use Rattle.session_links.specs.declared.request.Request.TheVariants.{Event as OfEvent}
use Rattle.session_links.specs.Links.{came, event_call, nothing, gone, Exchange, Call, Tells, same, with_call, with_close, with_receipt, with_sent}
use Rattle.session_texts.specs.declared.party.Party.{Party}
use Rattle.session_texts.specs.declared.party.Party.TheVariants.{Producer, Consumer, Admin}
use Rattle.session_texts.specs.declared.close.Close.{Close}
use Rattle.session_texts.specs.Asking.{asks, refusing}
use Rattle.session_texts.specs.Numbers.{reason_of}
use Rattle.session_texts.specs.Outcomes.{answer_of_seen, farewell_of, outcome_of, own_close}
use Rattle.session_texts.specs.Unsent.{Unsent, answering}
use Rattle.session_core.specs.declared.stop.Stop.{Stop}
use Rattle.session_core.specs.declared.stop.Stop.TheVariants.{Gone as Left, Closed}
use Rattle.session_core.specs.declared.session.Session.{Session}
use Rattle.session_core.specs.declared.asking.Series.{Series}
use Rattle.session_core.specs.declared.asking.Series.TheVariants.{Ticks, Dispatches}
use Rattle.session_core.specs.declared.texts.Received.{Received}
use Rattle.session_core.specs.declared.texts.Received.TheVariants.{Text, Nothing}
use Rattle.session_core.specs.Turns.{Silence, ended, Taken, Turn, receipt_of_silence, and_one, and_then, calls_of_asked, calls_of_texts, called, exchanged, texts_received, without_stop}
use Rattle.session_core.specs.Texts.{AreFew, AreTaken, IsRoomy, IsTakenAs, IsUnread, answer_in, answer_to, answered, close_in, closed_by, next_after, number_after_call}
use Rattle.session_core.specs.Asking.{AllLeftMore, Asked, AsksAll, AsksAs, IsSeries, IsWhole, asked_nothing, close_after, close_of_asked, copies_in, copies_of, durable_after, durable_in, leaves_more}
use Rattle.session_core.specs.Sending.{Gone, IsBlocked, IsReady, IsSent}
use Rattle.session_core.specs.Runs.{EndsWithClient, FailsAt, Finds, GoesOn, HasReceived, IsFull, ReceivesNoMore}
use Rattle.session_core.specs.Held.{holds_nothing, unsent_of}

-- memory is wanted
abbrev pub wanting_memory : Stop
wanting_memory = Closed (refusing NoMemory)

-- the messages that a session collected stay as they are, and so does what it knows
pub record KeepsCopies (s t : Session) : Type 0 where
  pub party : t.party ≡ s.party
  pub durable : t.durable ≡ s.durable
  pub copies : t.copies ≡ s.copies
  pub copies_sent : t.copies_sent ≡ s.copies_sent

-- the session holds what it held
pub record Stays (s t : Session) : Type 0 where
  pub keeps : KeepsCopies s t
  pub next : t.next ≡ s.next
  pub waiting : t.waiting.items ≡ s.waiting.items

-- the reply to what a text asked for was taken
pub record TakesReply (s : Session) (request : Request) (context : Option (List ℕ)) (c : Option (List Call)) (stop : Option Stop) (t : Session) (d : Option (List Call)) : Type 0 where
  pub reply : Reply
  pub calls : Tells (with_call (record { request = request; reply = reply })) c d
  pub stops : stop ≡ option_map Closed (close_in (outcome_of s.party context reply))
  pub keeps : KeepsCopies s t
  pub next : t.next ≡ number_after_call s.next (Some (record { request = request; reply = reply }))
  pub waiting : map answering t.waiting.items ≡ map answering s.waiting.items ++ answer_in (outcome_of s.party context reply)

-- the broker was looked at for a text, and what was seen is the answer
pub record TakesSeen (s : Session) (c : Option (List Call)) (t : Session) (d : Option (List Call)) : Type 0 where
  pub seen : Result (List ℕ) Fault
  pub calls : d ≡ c
  pub keeps : KeepsCopies s t
  pub next : t.next ≡ s.next
  pub waiting : t.waiting.items ≡ s.waiting.items ++ answer_of_seen seen ∷ []

-- a text was taken
pub record TakesText (s : Session) (now : ℕ) (text : List ℕ) (c : Option (List Call)) (stop : Option Stop) (t : Session) (d : Option (List Call)) : Type 0 where
  pub taken : Taken
  pub is_text : taken.text ≡ text
  pub as_asked : IsUnread taken ⊎ IsTakenAs s.party taken (asks s.party now s.next text)
  pub stops : stop ≡ option_map Closed taken.close
  pub calls : Tells (λ calls. and_one calls taken.call) c d
  pub keeps : KeepsCopies s t
  pub next : t.next ≡ number_after_call s.next taken.call
  pub unsent : unsent_of t ≡ unsent_of s ++ answer_to s.party now s.next taken

-- the session received once: a text, which it took; or nothing, since it is full or nothing came; or its end
abbrev pub TakesNext : Session → ℕ → Option Exchange → Option (List Call) → Result Received Stop → Session → Option Exchange → Option (List Call) → Bool → Type 0
TakesNext s now e c (Ok Text) t f d is_open =
    (text : List ℕ) × TakesText s now text c None t d × Tells (with_receipt (came text)) e f × (is_open ≡ true) × IsRoomy (unsent_of s)
TakesNext s now e c (Ok Nothing) t f d is_open =
    Stays s t × (d ≡ c) × (is_open ≡ true) × ((Tells (with_receipt nothing) e f × IsRoomy (unsent_of s)) ⊎ (IsFull (unsent_of s) × (f ≡ e)))
TakesNext s now e c (Err stop) t f d is_open =
    ((text : List ℕ) × TakesText s now text c (Some stop) t d × Tells (with_receipt (came text)) e f × (is_open ≡ true) × IsRoomy (unsent_of s))
    ⊎ ((Stays s t × (d ≡ c) × (stop ≡ Left) × (is_open ≡ false) × ((Tells (with_receipt gone) e f × IsRoomy (unsent_of s)) ⊎ Tells same e f))
    ⊎ (Stays s t × (d ≡ c) × (stop ≡ wanting_memory) × (is_open ≡ true) × (f ≡ e)))

-- what was received with these texts, and this that was none
abbrev pub received_with : List Taken → Option Silence → Exchange → Exchange
received_with taken silence e = record e { received = and_one (texts_received e.received taken) (option_map receipt_of_silence silence) }

-- these texts were taken
pub record TakesAll (s : Session) (now : ℕ) (taken : List Taken) (silence : Option Silence) (e : Option Exchange) (c : Option (List Call)) (t : Session) (f : Option Exchange) (d : Option (List Call)) : Type 0 where
  pub texts : AreTaken s.party now s.next taken
  pub exchange : Tells (received_with taken silence) e f
  pub calls : Tells (λ calls. calls_of_texts calls taken) c d
  pub keeps : KeepsCopies s t
  pub next : t.next ≡ next_after s.next taken
  pub unsent : unsent_of t ≡ answered s.party now s.next (unsent_of s) taken
  pub few : AreFew s.party now s.next (unsent_of s) taken

-- so many texts were taken, and the session goes on
pub record TakesSome (s : Session) (now count : ℕ) (e : Option Exchange) (c : Option (List Call)) (t : Session) (f : Option Exchange) (d : Option (List Call)) (is_open : Bool) : Type 0 where
  pub taken : List Taken
  pub all : TakesAll s now taken None e c t f d
  pub as_many : length taken ≡ count
  pub goes_on : closed_by taken ≡ None
  pub opens : is_open ≡ true

-- why no more texts were taken, where no text closed the session
abbrev pub EndsTexts : List Taken → Option Silence → ℕ → List Unsent → Option Stop → Bool → Type 0
EndsTexts taken silence most unsent stop is_open =
    ((stop ≡ None) × (is_open ≡ true) × (IsSome silence ⊎ ((length taken ≡ most) ⊎ IsFull unsent)))
    ⊎ (((stop ≡ Some Left) × (is_open ≡ false)) ⊎ ((stop ≡ Some wanting_memory) × (is_open ≡ true)))

-- the same, where one may have
abbrev pub EndsTextsBy : Option Close → List Taken → Option Silence → ℕ → List Unsent → Option Stop → Bool → Type 0
EndsTextsBy None taken silence most unsent stop is_open = EndsTexts taken silence most unsent stop is_open
EndsTextsBy (Some close) taken silence most unsent stop is_open = (stop ≡ Some (Closed close)) × (is_open ≡ true)

-- the texts of a turn were taken
pub record TakesTexts (s : Session) (now most : ℕ) (e : Option Exchange) (c : Option (List Call)) (stop : Option Stop) (t : Session) (f : Option Exchange) (d : Option (List Call)) (is_open : Bool) : Type 0 where
  pub taken : List Taken
  pub silence : Option Silence
  pub all : TakesAll s now taken silence e c t f d
  pub at_most : length taken ≤ most
  pub ends : EndsTextsBy (closed_by taken) taken silence most (unsent_of t) stop is_open
  pub silent : IsSome silence → IsRoomy (unsent_of t)
  pub gone : silence ≡ Some ended → (stop ≡ Some Left) × (is_open ≡ false)

-- one event was asked, and whether more may be was told; or it closed the session, or there was no memory to ask
abbrev pub AsksOne : Event → Option (List Call) → Result Bool Stop → Option (List Call) → Type 0
AsksOne event c (Ok more) d =
    (reply : Reply) × Tells (with_call (event_call event reply)) c d × (own_close reply ≡ None) × (leaves_more reply ≡ more)
AsksOne event c (Err stop) d =
    ((reply : Reply) × Tells (with_call (event_call event reply)) c d × (option_map Closed (own_close reply) ≡ Some stop))
    ⊎ ((stop ≡ wanting_memory) × (d ≡ c))

-- so many were asked, each of which left more
pub record AsksSome (event : Event) (count : ℕ) (c d : Option (List Call)) : Type 0 where
  pub calls : List Call
  pub left : AllLeftMore event calls
  pub as_many : length calls ≡ count
  pub tells : Tells (λ all. and_then all calls) c d

-- why a series ended
abbrev pub EndsSeries : Option Close → List Call → Option Stop → Type 0
EndsSeries None calls stop = ((stop ≡ None) × IsWhole calls) ⊎ (stop ≡ Some wanting_memory)
EndsSeries (Some close) calls stop = stop ≡ Some (Closed close)

-- a series was asked
pub record AsksSeries (event : Event) (c : Option (List Call)) (stop : Option Stop) (d : Option (List Call)) : Type 0 where
  pub calls : List Call
  pub series : IsSeries event calls
  pub tells : Tells (λ all. and_then all calls) c d
  pub ends : EndsSeries (close_after calls) calls stop

-- the session ends by the close that there is, or by want of memory where there is none
abbrev pub StopsSo : Option Close → Stop → Type 0
StopsSo None stop = stop ≡ wanting_memory
StopsSo (Some close) stop = stop ≡ Closed close

-- how the asking of both series ended: the second one only where the session is free to send more
abbrev pub EndsBoth : Bool → List Call → List Call → Result Bool Stop → Type 0
EndsBoth is_free ticks dispatches (Ok true) =
    (is_free ≡ true) × IsWhole ticks × (close_after ticks ≡ None) × IsWhole dispatches × (close_after dispatches ≡ None)
EndsBoth is_free ticks dispatches (Ok false) = (is_free ≡ false) × (dispatches ≡ []) × IsWhole ticks × (close_after ticks ≡ None)
EndsBoth is_free ticks dispatches (Err stop) = StopsSo (option_or (close_after ticks) (close_after dispatches)) stop

-- ticks were asked, and dispatches where the session is free to send more
pub record AsksBoth (subscription : List ℕ) (now : ℕ) (is_free : Bool) (c : Option (List Call)) (result : Result Bool Stop) (d : Option (List Call)) : Type 0 where
  pub ticks : List Call
  pub dispatches : List Call
  pub ticks_are : IsSeries (Tick subscription now) ticks
  pub dispatches_are : IsSeries (Dispatch subscription now) dispatches
  pub tells : Tells (λ all. and_then (and_then all ticks) dispatches) c d
  pub ticks_first : (dispatches ≡ []) ⊎ (IsWhole ticks × (close_after ticks ≡ None))
  pub held : is_free ≡ false → dispatches ≡ []
  pub ends : EndsBoth is_free ticks dispatches result

-- whether a session that asked all may have more to send
abbrev pub may_send : Party → Session → Bool → Bool
may_send (Producer producer first) s has_room = true
may_send (Consumer consumer subscription) s has_room = holds_nothing s && has_room
may_send Admin s has_room = false

-- why the asking ended
abbrev pub EndsAsking : Party → Session → Bool → Asked → Option Close → Result Bool Stop → Type 0
EndsAsking party s has_room asked close (Ok more) =
    (close ≡ None) × (more ≡ may_send party s has_room) × AsksAll party more asked × ((more ≡ true) ⊎ (asked.last ≡ None))
EndsAsking party s has_room asked close (Err stop) = StopsSo close stop

-- what the session asks of its own accord was asked
pub record AsksOwn (s : Session) (now : ℕ) (has_room : Bool) (c : Option (List Call)) (result : Result Bool Stop) (t : Session) (d : Option (List Call)) : Type 0 where
  pub asked : Asked
  pub asks : AsksAs s.party now (holds_nothing s && has_room) asked
  pub calls : Tells (λ all. calls_of_asked all asked) c d
  pub party : t.party ≡ s.party
  pub next : t.next ≡ s.next
  pub durable : t.durable ≡ durable_after s.party s.durable asked.last
  pub unsent : unsent_of t ≡ unsent_of s ++ copies_of s.party asked.last
  pub ends : EndsAsking s.party s has_room asked (close_of_asked asked) result

-- the texts were sent
abbrev pub sent_with : List (List ℕ) → Exchange → Exchange
sent_with texts e = record e { sent = e.sent ++ texts }

-- why the sending ended: nothing more is ready, or the connection has no room; or, with something left that is ready, the connection
-- failed, or there was no memory for what it had room for
abbrev pub EndsSending : ℕ → List Unsent → Option Stop → Bool → Bool → Type 0
EndsSending durable left stop is_open has_room =
    ((stop ≡ None) × (is_open ≡ true) × (has_room ≡ true → IsBlocked durable left))
    ⊎ (IsReady durable left × (((stop ≡ Some Left) × (is_open ≡ false)) ⊎ ((stop ≡ Some wanting_memory) × (is_open ≡ true) × (has_room ≡ true))))

-- what a session knows stays as it is
pub record KeepsState (s t : Session) : Type 0 where
  pub party : t.party ≡ s.party
  pub next : t.next ≡ s.next
  pub durable : t.durable ≡ s.durable

-- a beginning of what the session holds was sent
pub record SendsSome (s : Session) (e : Option Exchange) (t : Session) (f : Option Exchange) : Type 0 where
  pub gone : List Gone
  pub parts : map (λ (g : Gone). g.item) gone ++ unsent_of t ≡ unsent_of s
  pub ready : All (IsSent s.durable) gone
  pub exchange : Tells (sent_with (map (λ (g : Gone). g.text) gone)) e f
  pub keeps : KeepsState s t

-- what is ready was sent
pub record SendsReady (s : Session) (e : Option Exchange) (stop : Option Stop) (t : Session) (f : Option Exchange) (is_open has_room : Bool) : Type 0 where
  pub sends : SendsSome s e t f
  pub ends : EndsSending s.durable (unsent_of t) stop is_open has_room

-- what was sent before the session asked: all that there was, where it was free to send more
pub record SendsFirst (durable : ℕ) (unsent : List Unsent) (t : Turn) : Type 0 where
  pub gone : List Gone
  pub texts : map (λ (g : Gone). g.text) gone ≡ t.sent_first
  pub ready : All (IsSent durable) gone
  pub all : t.was_free ≡ true → map (λ (g : Gone). g.item) gone ≡ unsent
  pub later : List (List ℕ)
  pub parts : t.sent_first ++ later ≡ t.sent

-- a turn but for its end, and for why it stops; what the connection had told when the session asked, and whether it had room then
pub record Serves (s : Session) (now most : ℕ) (e : Option Exchange) (c : Option (List Call)) (stop : Option Stop) (t : Session) (f : Option Exchange) (d : Option (List Call)) (is_open has_room : Bool) (told : Option Exchange) (had_room : Bool) : Type 0 where
  pub turn : Turn
  pub is_now : turn.now ≡ now
  pub is_most : turn.most ≡ most
  pub is_stop : turn.stop ≡ stop
  pub no_farewell : turn.farewell ≡ None
  pub opens : turn.is_open ≡ is_open
  pub roomy : turn.has_room ≡ has_room
  pub texts : AreTaken s.party now s.next turn.taken
  pub at_most : length turn.taken ≤ most
  pub few : AreFew s.party now s.next (unsent_of s) turn.taken
  pub silent : IsSome turn.silence → IsRoomy (answered s.party now s.next (unsent_of s) turn.taken)
  pub receives : ReceivesNoMore turn (answered s.party now s.next (unsent_of s) turn.taken)
  pub asks : AsksAs s.party now turn.was_free turn.asked
  pub is_over : (closed_by turn.taken ≡ None) ⊎ (turn.asked ≡ asked_nothing)
  pub heard : (turn.asked ≡ asked_nothing) ⊎ HasReceived turn (answered s.party now s.next (unsent_of s) turn.taken)
  pub first : SendsFirst s.durable (answered s.party now s.next (unsent_of s) turn.taken) turn
  pub finds : Finds turn e told had_room
  pub party : t.party ≡ s.party
  pub next : t.next ≡ next_after s.next turn.taken
  pub durable : t.durable ≡ durable_after s.party s.durable turn.asked.last
  pub gone : List Gone
  pub parts : map (λ (g : Gone). g.item) gone ++ unsent_of t ≡ answered s.party now s.next (unsent_of s) turn.taken ++ copies_of s.party turn.asked.last
  pub sent : map (λ (g : Gone). g.text) gone ≡ turn.sent
  pub ready : All (IsSent t.durable) gone
  pub exchange : Tells (exchanged (without_stop turn)) e f
  pub calls : Tells (called turn) c d
  pub goes_on : stop ≡ None → GoesOn s.party turn t.durable (unsent_of t)
  pub stays_open : stop ≡ None → is_open ≡ true
  pub lost : EndsWithClient turn
  pub fails : FailsAt turn t.durable (unsent_of t)
  -- a session that is to be closed has a connection to close
  pub can_close : (close : Close) → stop ≡ Some (Closed close) → is_open ≡ true

-- the connection was closed where there is a close
abbrev pub ClosesBy : Stop → Option Exchange → Option Exchange → Type 0
ClosesBy Left e f = f ≡ e
ClosesBy (Closed close) e f = Tells (with_close close.code (reason_of close.fault)) e f

-- the last event was called
pub record SaysLast (party : Party) (c d : Option (List Call)) : Type 0 where
  pub farewell : Option Call
  pub event : option_map (λ (call : Call). call.request) farewell ≡ option_map OfEvent (farewell_of party)
  pub calls : Tells (λ all. and_one all farewell) c d

-- the event of a series
abbrev pub series_event : Series → List ℕ → ℕ → Event
series_event Ticks subscription now = Tick subscription now
series_event Dispatches subscription now = Dispatch subscription now

-- how much is stored was asked
pub record AsksProgress (s : Session) (c : Option (List Call)) (stop : Option Stop) (t : Session) (d : Option (List Call)) : Type 0 where
  pub reply : Reply
  pub calls : Tells (with_call (event_call Progress reply)) c d
  pub durable : t.durable ≡ max s.durable (durable_in reply)
  pub party : t.party ≡ s.party
  pub next : t.next ≡ s.next
  pub unsent : unsent_of t ≡ unsent_of s
  pub stops : stop ≡ option_map Closed (own_close reply)

-- what the consumer was sent was asked for
pub record AsksCollect (consumer : ℕ) (s : Session) (c : Option (List Call)) (stop : Option Stop) (t : Session) (d : Option (List Call)) : Type 0 where
  pub reply : Reply
  pub calls : Tells (with_call (event_call (Collect consumer) reply)) c d
  pub keeps : KeepsState s t
  pub unsent : unsent_of t ≡ copies_in reply
  pub stops : stop ≡ option_map Closed (own_close reply)

-- how the sending of one failed: the connection did, or there was no memory, and the connection has the room that it had
abbrev pub FailsSending : Stop → Bool → Bool → Bool → Type 0
FailsSending stop had_room is_open has_room = ((stop ≡ Left) × (is_open ≡ false)) ⊎ ((stop ≡ wanting_memory) × (is_open ≡ true) × (has_room ≡ had_room))

-- the first of what the session holds was sent, or the session stays as it is
abbrev pub SendsOne : Session → Option Exchange → Bool → Option Stop → Session → Option Exchange → Bool → Bool → Type 0
SendsOne s e had_room None t f is_open has_room =
    (gone : Gone) × (gone.item ∷ unsent_of t ≡ unsent_of s) × IsSent s.durable gone × Tells (with_sent gone.text) e f × KeepsState s t × (is_open ≡ true)
SendsOne s e had_room (Some stop) t f is_open has_room = (unsent_of t ≡ unsent_of s) × Tells same e f × KeepsState s t × FailsSending stop had_room is_open has_room

-- a session that is to be closed has a connection to close
abbrev pub CanClose : Stop → Bool → Type 0
CanClose Left is_open = Unit {0}
CanClose (Closed close) is_open = is_open ≡ true

-- a session at rest has the same to send, and knows the same
pub record Rests (s t : Session) : Type 0 where
  pub keeps : KeepsState s t
  pub unsent : unsent_of t ≡ unsent_of s
