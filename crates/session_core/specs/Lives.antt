-- A session's whole life: the call that it began with, and its turns, up to its end.
use Rattle.std.specs.Prelude.{◌≡◌, ℕ, List, [], ◌∷◌, map, Option, Some, None, option_map}
use Rattle.position_core.specs.declared.fault.Fault.{Fault}
use Rattle.position_core.specs.declared.fault.Fault.TheVariants.{NoMemory}
use Rattle.delivery_machine.specs.declared.event.Event.{Event}
use Rattle.endpoint_core.specs.declared.routes.Endpoint.{Endpoint}
use Rattle.endpoint_core.specs.declared.routes.Endpoint.TheVariants.{Producer, Consumer, Admin}
use Rattle.session_links.specs.declared.request.Request.TheVariants.{Event as OfEvent}
use Rattle.session_links.specs.Links.{Call, Exchange, Tells, with_close}
use Rattle.session_texts.specs.declared.party.Party.{Party}
use Rattle.session_texts.specs.declared.party.Party.TheVariants.{Admin as AsAdmin}
use Rattle.session_texts.specs.Numbers.{reason_of}
use Rattle.session_texts.specs.Outcomes.{farewell_of}
use Rattle.session_core.specs.declared.session.Session.{Session}
use Rattle.session_core.specs.declared.stop.Stop.{Stop}
use Rattle.session_core.specs.Turns.{Turn, and_one, called, closed, exchanged}
use Rattle.session_core.specs.Runs.{IsRun, IsSession}
use Rattle.session_core.specs.Opening.{consumer_party, fault_of, joins_consumer, joins_producer, producer_party}

-- A session's life so far.
pub record Life : Type 0 where
  -- the call that it began with, where there was one
  pub opening : Option Call
  -- its turns, the latest first
  pub turns : List Turn

-- the life, and then this turn
abbrev pub and_turn : Life → Turn → Life
and_turn life t = record life { turns = t ∷ life.turns }

-- what the connection took and gave before, and then in the turns
abbrev pub exchanged_in : List Turn → Exchange → Exchange
exchanged_in [] e = e
exchanged_in (t ∷ before) e = exchanged t (exchanged_in before e)

-- the calls before, and then those of the turns
abbrev pub called_in : List Turn → List Call → List Call
called_in [] calls = calls
called_in (t ∷ before) calls = called t (called_in before calls)

-- the calls before, and then all of the life
abbrev pub called_by : Life → List Call → List Call
called_by life calls = called_in life.turns (and_one calls life.opening)

-- the calls with which turns ended the session
abbrev pub farewells : List Turn → List Call
farewells [] = []
farewells (t ∷ before) = and_one (farewells before) t.farewell

-- how the last turn ended the session, where it did
abbrev pub stop_of : List Turn → Option Stop
stop_of [] = None
stop_of (t ∷ before) = t.stop

-- the event with which a session at the endpoint begins, where there is one
abbrev pub joins : Endpoint → Option Event
joins (Producer p) = Some (joins_producer p)
joins (Consumer c) = Some (joins_consumer c)
joins (Admin a) = None

-- whose session begins at the endpoint, by the reply to that event
abbrev pub party_of : Endpoint → Option Call → Option Party
party_of (Producer p) (Some call) = producer_party p.base call.reply
party_of (Consumer c) (Some call) = consumer_party c.subscription call.reply
party_of (Admin a) None = Some AsAdmin
party_of endpoint opening = None

-- A session of the party began at the endpoint.
pub record Began (endpoint : Endpoint) (opening : Option Call) (party : Party) : Type 0 where
  pub event : option_map (λ (call : Call). call.request) opening ≡ option_map OfEvent (joins endpoint)
  pub is_party : party_of endpoint opening ≡ Some party

-- all that the connection and the caller told since they told the first is the life
pub record Tell (life : Life) (e0 : Option Exchange) (c0 : Option (List Call)) (e : Option Exchange) (c : Option (List Call)) : Type 0 where
  pub exchange : Tells (exchanged_in life.turns) e0 e
  pub calls : Tells (called_by life) c0 c

-- The session lives at the endpoint: what was told is how it began and its turns so far. None of them has ended it.
pub record IsLived (endpoint : Endpoint) (life : Life) (s : Session) (e0 : Option Exchange) (c0 : Option (List Call)) (e : Option Exchange) (c : Option (List Call)) : Type 0 where
  pub began : Began endpoint life.opening s.party
  pub session : IsSession s life.turns
  pub tell : Tell life e0 c0 e c
  pub closes : (x : Exchange) → (exchanged_in life.turns x).closes ≡ x.closes
  pub farewell : farewells life.turns ≡ []

-- A session lived at the endpoint and has ended: what was told is how it began and all its turns. The last one ended it, with one
-- farewell, that of its party, and with at most one close, that of the end.
pub record HasLived (endpoint : Endpoint) (life : Life) (e0 : Option Exchange) (c0 : Option (List Call)) (e : Option Exchange) (c : Option (List Call)) : Type 0 where
  pub party : Party
  pub began : Began endpoint life.opening party
  pub run : IsRun party life.turns
  pub stop : Stop
  pub ended : stop_of life.turns ≡ Some stop
  pub tell : Tell life e0 c0 e c
  pub closes : (x : Exchange) → (exchanged_in life.turns x).closes ≡ closed (Some stop) x.closes
  pub farewell : map (λ (call : Call). call.request) (farewells life.turns) ≡ and_one [] (option_map OfEvent (farewell_of party))

-- the session lives on, or has ended
abbrev pub LivesOn : Endpoint → Life → Option Session → Option Exchange → Option (List Call) → Option Exchange → Option (List Call) → Type 0
LivesOn endpoint life None e0 c0 e c = HasLived endpoint life e0 c0 e c
LivesOn endpoint life (Some s) e0 c0 e c = IsLived endpoint life s e0 c0 e c

-- Where all that was told so far is the session's life, so it is after a turn more.
abbrev pub KeepsLife : Session → Option Exchange → Option (List Call) → Option Session → Option Exchange → Option (List Call) → Type 0
KeepsLife s e c result f d =
    (endpoint : Endpoint) → (life : Life) → (e0 : Option Exchange) → (c0 : Option (List Call)) → IsLived endpoint life s e0 c0 e c
    → (t : Turn) × LivesOn endpoint (and_turn life t) result e0 c0 f d

-- the code of a close for the topic's refusal
abbrev pub refusal_code : Endpoint → ℕ
refusal_code (Producer p) = 4001
refusal_code (Consumer c) = 4002
refusal_code (Admin a) = 4008

-- why no session begins, and with which code that is said: the topic refused its event, or there was no memory to call a consumer's
abbrev pub Refuses : Endpoint → Option Call → ℕ → Fault → Type 0
Refuses endpoint (Some call) code fault =
    (Some call.request ≡ option_map OfEvent (joins endpoint)) × (party_of endpoint (Some call) ≡ None) × (code ≡ refusal_code endpoint) × (fault ≡ fault_of call.reply)
Refuses (Consumer c) None code fault = (code ≡ 4008) × (fault ≡ NoMemory)
Refuses endpoint None code fault = ⊥

-- No session began: nothing was received or sent, and the connection was closed.
pub record WasRefused (endpoint : Endpoint) (opening : Option Call) (e0 : Option Exchange) (c0 : Option (List Call)) (e : Option Exchange) (c : Option (List Call)) : Type 0 where
  pub code : ℕ
  pub fault : Fault
  pub refuses : Refuses endpoint opening code fault
  pub exchange : Tells (with_close code (reason_of fault)) e0 e
  pub calls : Tells (λ calls. and_one calls opening) c0 c

-- what was told is that the session began, or that it was refused
abbrev pub BeginsLife : Endpoint → Option Exchange → Option (List Call) → Option Session → Option Exchange → Option (List Call) → Type 0
BeginsLife endpoint e c None f d = (opening : Option Call) × WasRefused endpoint opening e c f d
BeginsLife endpoint e c (Some s) f d = (opening : Option Call) × IsLived endpoint (record { opening = opening; turns = [] }) s e c f d
