-- A session's run: its turns, the latest first.
use Rattle.std.specs.Prelude.{◌≡◌, ◌⊎◌, ℕ, ℤ, ◌≤◌, List, [], ◌∷◌, ◌++◌, length, count_by, Bool, true, false, Option, Some, None, IsSome, MatchOption, option_map}
use Rattle.std.specs.Option.{option_or}
use Rattle.position_core.specs.declared.fault.Fault.TheVariants.{NoMemory}
use Rattle.session_links.specs.declared.request.Request.TheVariants.{Event as OfEvent}
use Rattle.session_links.specs.Links.{Call, Exchange, Tells}
use Rattle.session_texts.specs.declared.party.Party.{Party}
use Rattle.session_texts.specs.declared.close.Close.{Close}
use Rattle.session_texts.specs.Asking.{refusing}
use Rattle.session_texts.specs.Outcomes.{farewell_of, first_of}
use Rattle.session_texts.specs.Unsent.{Unsent, is_answer}
use Rattle.session_core.specs.declared.stop.Stop.{Stop}
use Rattle.session_core.specs.declared.stop.Stop.TheVariants.{Gone, Closed}
use Rattle.session_core.specs.Turns.{Turn, ended, called, exchanged, until_asking, without_stop}
use Rattle.session_core.specs.Texts.{AreFew, AreTaken, IsRoomy, answered, closed_by, next_after}
use Rattle.session_core.specs.Asking.{AsksAll, AsksAs, asked_nothing, close_of_asked, copies_of, durable_after}
use Rattle.session_core.specs.Sending.{IsBlocked, IsReady, Sends}
use Rattle.session_core.specs.Held.{unsent_of}
use Rattle.session_core.specs.declared.session.Session.{Session}

-- the number of the next publish after the turns
abbrev pub next_of : Party → List Turn → Option ℤ
next_of party [] = first_of party
next_of party (t ∷ before) = next_after (next_of party before) t.taken

-- the most that was seen to be stored
abbrev pub durable_of : Party → List Turn → ℕ
durable_of party [] = 0
durable_of party (t ∷ before) = durable_after party (durable_of party before) t.asked.last

-- all that there was to be sent, in order
abbrev pub all_of : Party → List Turn → List Unsent
all_of party [] = []
all_of party (t ∷ before) = answered party t.now (next_of party before) (all_of party before) t.taken ++ copies_of party t.asked.last

-- all that was sent, in order
abbrev pub sent_of : List Turn → List (List ℕ)
sent_of [] = []
sent_of (t ∷ before) = sent_of before ++ t.sent

-- 1,000 texts are not answered yet
abbrev pub IsFull : List Unsent → Type 0
IsFull left = 1000 ≤ count_by is_answer left

-- why a turn received no more: nothing came, or the connection was gone; the last text closed the session; it took as many as it
-- should; too many are not answered; the connection failed; or there was no memory for a further answer
abbrev pub ReceivesNoMore : Turn → List Unsent → Type 0
ReceivesNoMore t unanswered =
    IsSome t.silence ⊎ (IsSome (closed_by t.taken) ⊎ ((length t.taken ≡ t.most) ⊎ (IsFull unanswered ⊎ ((t.is_open ≡ false) ⊎ (t.stop ≡ Some (Closed (refusing NoMemory)))))))

-- it received all that it should: nothing more came, it took as many as it should, or too many are not answered
abbrev pub HasReceived : Turn → List Unsent → Type 0
HasReceived t unanswered = IsSome t.silence ⊎ ((length t.taken ≡ t.most) ⊎ IsFull unanswered)

-- the close that the turn's texts or calls lead to
abbrev pub close_of : Turn → Option Close
close_of t = option_or (closed_by t.taken) (close_of_asked t.asked)

-- no text and no call ends the session: it goes on; or the connection is gone or has failed; or memory is wanted for what the
-- session does itself
abbrev pub StopsItself : Turn → Type 0
StopsItself t =
    (t.stop ≡ None) ⊎ (((t.stop ≡ Some Gone) × (t.is_open ≡ false)) ⊎ (t.stop ≡ Some (Closed (refusing NoMemory))))

-- the sending before a close failed: the connection did, or there was no memory to write a text that it had room for
abbrev pub FailsBeforeClose : Turn → Type 0
FailsBeforeClose t =
    ((t.stop ≡ Some Gone) × (t.is_open ≡ false))
    ⊎ ((t.stop ≡ Some (Closed (refusing NoMemory))) × (t.is_open ≡ true) × (t.has_room ≡ true))

-- the turn ends the session where a text or a call does, as that has it; or, where something is left that is ready to be sent, as
-- the sending of it failed
abbrev pub StopsBy : Option Close → Turn → ℕ → List Unsent → Type 0
StopsBy (Some close) t durable left = (t.stop ≡ Some (Closed close)) ⊎ (IsReady durable left × FailsBeforeClose t)
StopsBy None t durable left = StopsItself t

-- the session ends with its last event, and only then
abbrev pub SaysFarewell : Party → Option Stop → Option Call → Type 0
SaysFarewell party None farewell = farewell ≡ None
SaysFarewell party (Some stop) farewell = option_map (λ (call : Call). call.request) farewell ≡ option_map OfEvent (farewell_of party)

-- whether the session is free to send more
abbrev pub is_free : Turn → List Unsent → Bool
is_free t [] = t.has_room
is_free t (item ∷ left) = false

-- a turn that goes on asks all and sends all that is ready, as long as the connection has room
abbrev pub GoesOn : Party → Turn → ℕ → List Unsent → Type 0
GoesOn party t durable left = AsksAll party (is_free t left) t.asked × (t.has_room ≡ true → IsBlocked durable left)

-- A turn that closes an open connection sends all that is ready before, as long as the connection has room. One that closes it
-- for want of memory may have had none to write a text.
abbrev pub SendsBeforeClose : Turn → ℕ → List Unsent → Type 0
SendsBeforeClose t durable left =
    (close : Close) → t.stop ≡ Some (Closed close)
    → (t.is_open ≡ true) × (t.has_room ≡ true → IsBlocked durable left ⊎ (close ≡ refusing NoMemory))

-- where the client is gone, nothing is asked or sent, and the session ends
abbrev pub EndsWithClient : Turn → Type 0
EndsWithClient t = t.silence ≡ Some ended → (t.asked ≡ asked_nothing) × (t.sent ≡ []) × (t.stop ≡ Some Gone) × (t.is_open ≡ false)

-- all that there was to be sent after the texts of the turn was sent before it asked
abbrev pub HasSentAll : Party → List Turn → Turn → Type 0
HasSentAll party before t =
    Sends (durable_of party before) (answered party t.now (next_of party before) (all_of party before) t.taken) (sent_of before ++ t.sent_first) []

-- a connection that fails did so before anything was asked, or with something left that is ready to be sent
abbrev pub FailsAt : Turn → ℕ → List Unsent → Type 0
FailsAt t durable left = t.is_open ≡ false → (t.asked ≡ asked_nothing) ⊎ IsReady durable left

-- A turn after these turns.
pub record IsTurn (party : Party) (before : List Turn) (t : Turn) : Type 0 where
  -- its texts, and what they lead to
  pub texts : AreTaken party t.now (next_of party before) t.taken
  pub most : length t.taken ≤ t.most
  pub held : List Unsent
  pub holds : Sends (durable_of party before) (all_of party before) (sent_of before) held
  -- a full session receives nothing
  pub few : AreFew party t.now (next_of party before) held t.taken
  pub silent : IsSome t.silence → IsRoomy (answered party t.now (next_of party before) held t.taken)
  pub receives : ReceivesNoMore t (answered party t.now (next_of party before) held t.taken)
  -- what it asks of its own accord, once it has received all that it should; where its connection failed in the receiving, nothing
  pub asks : AsksAs party t.now t.was_free t.asked
  pub is_over : (closed_by t.taken ≡ None) ⊎ (t.asked ≡ asked_nothing)
  pub heard : (t.asked ≡ asked_nothing) ⊎ HasReceived t (answered party t.now (next_of party before) held t.taken)
  -- free to send more then is only one that has sent all (and whose connection has room: `Finds`)
  pub free : t.was_free ≡ true → HasSentAll party before t
  pub sent_then : List (List ℕ)
  pub sent_parts : t.sent_first ++ sent_then ≡ t.sent
  -- what it sends
  pub left : List Unsent
  pub sends : Sends (durable_of party (t ∷ before)) (all_of party (t ∷ before)) (sent_of (t ∷ before)) left
  -- whether and how the session ends
  pub stops : StopsBy (close_of t) t (durable_of party (t ∷ before)) left
  pub farewell : SaysFarewell party t.stop t.farewell
  pub goes_on : t.stop ≡ None → GoesOn party t (durable_of party (t ∷ before)) left
  pub closes : SendsBeforeClose t (durable_of party (t ∷ before)) left
  pub gone : EndsWithClient t
  pub fails : FailsAt t (durable_of party (t ∷ before)) left

-- the session has not ended
abbrev pub IsOpen : List Turn → Type 0
IsOpen [] = Unit {0}
IsOpen (t ∷ before) = t.stop ≡ None

-- each turn comes after those before it
abbrev pub IsRun : Party → List Turn → Type 0
IsRun party [] = Unit {0}
IsRun party (t ∷ before) = IsRun party before × IsOpen before × IsTurn party before t

-- A session after its turns.
pub record IsSession (s : Session) (turns : List Turn) : Type 0 where
  pub run : IsRun s.party turns
  pub goes_on : IsOpen turns
  pub next : s.next ≡ next_of s.party turns
  pub durable : s.durable ≡ durable_of s.party turns
  pub sends : Sends (durable_of s.party turns) (all_of s.party turns) (sent_of turns) (unsent_of s)

-- What became of a session in one turn more: what its connection and its caller tell, and the session, where it goes on.
pub record IsServed (s : Session) (now most : ℕ) (before : List Turn) (e : Option Exchange) (c : Option (List Call)) (result : Option Session) (f : Option Exchange) (d : Option (List Call)) (is_open has_room : Bool) : Type 0 where
  pub turn : Turn
  pub is_now : turn.now ≡ now
  pub is_most : turn.most ≡ most
  pub is_turn : IsTurn s.party before turn
  pub exchange : Tells (exchanged turn) e f
  pub calls : Tells (called turn) c d
  -- a connection that failed, or whose client has gone, is not open, and neither is one that was closed
  pub fails : turn.is_open ≡ false → is_open ≡ false
  pub session : MatchOption result (IsSome turn.stop) (λ t. (turn.stop ≡ None) × (t.party ≡ s.party) × IsSession t (turn ∷ before) × (is_open ≡ true) × (turn.has_room ≡ has_room) × (t.had_room ≡ has_room))

-- How a turn left its connection, before it closed it: what the connection told, whether it was open, and whether it had room.
pub record Leaves (t : Turn) (e f : Option Exchange) (is_open has_room : Bool) : Type 0 where
  pub exchange : Tells (exchanged (without_stop t)) e f
  pub opens : t.is_open ≡ is_open
  pub roomy : t.has_room ≡ has_room

-- How a turn found its connection when it asked: what the connection told by then, and that it had room, where the session was free to
-- send more.
pub record Finds (t : Turn) (e f : Option Exchange) (has_room : Bool) : Type 0 where
  pub exchange : Tells (exchanged (until_asking t)) e f
  pub roomy : t.was_free ≡ true → has_room ≡ true
