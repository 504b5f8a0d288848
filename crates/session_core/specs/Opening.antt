-- How a session begins.
use Rattle.std.specs.Prelude.{◌≡◌, ◌⊎◌, ℕ, ℤ, List, [], Bool, true, false, Option, Some, None, unwrap_or, negsuc}
use Rattle.position_core.specs.declared.fault.Fault.{Fault}
use Rattle.position_core.specs.declared.fault.Fault.TheVariants.{NoMemory, NoSession}
use Rattle.delivery_machine.specs.declared.event.Event.{Event}
use Rattle.delivery_machine.specs.declared.event.Event.TheVariants.{AddProducer, Subscribe}
use Rattle.delivery_machine.specs.declared.reply.Reply.{Reply}
use Rattle.delivery_machine.specs.declared.reply.Reply.TheVariants.{ProducerAdded, Subscribed, Refused}
use Rattle.endpoint_core.specs.declared.consumers.ConsumerEndpoint.{ConsumerEndpoint}
use Rattle.endpoint_core.specs.declared.producers.ProducerEndpoint.{ProducerEndpoint}
use Rattle.endpoint_core.specs.declared.routes.Endpoint.{Endpoint}
use Rattle.endpoint_core.specs.declared.routes.Endpoint.TheVariants.{Producer, Consumer, Admin}
use Rattle.session_links.specs.Links.{Call, Exchange, Tells, event_call, with_call, with_close}
use Rattle.session_texts.specs.declared.party.Party.{Party}
use Rattle.session_texts.specs.declared.party.Party.TheVariants.{Producer as AsProducer, Consumer as AsConsumer, Admin as AsAdmin}
use Rattle.session_texts.specs.Numbers.{number_after, reason_of}
use Rattle.session_core.specs.declared.session.Session.{Session}
use Rattle.session_core.specs.Runs.{IsSession}

-- the event with which a producer's session begins
abbrev pub joins_producer : ProducerEndpoint → Event
joins_producer p = AddProducer p.name (unwrap_or p.base (negsuc 0))

-- the event with which a consumer's session begins
abbrev pub joins_consumer : ConsumerEndpoint → Event
joins_consumer c = Subscribe c.subscription c.kind c.level c.flow c.ack_timeout c.nack_delay c.max_redeliver c.dead_topic c.initial c.ranges

-- a producer's numbers go on from the base that it gave, or from the last number under its name
abbrev pub producer_party : Option ℤ → Reply → Option Party
producer_party base (ProducerAdded producer auto last) = Some (AsProducer producer (number_after (unwrap_or base last)))
producer_party base reply = None

abbrev pub consumer_party : List ℕ → Reply → Option Party
consumer_party subscription (Subscribed consumer) = Some (AsConsumer consumer subscription)
consumer_party subscription reply = None

-- why the topic refused
abbrev pub fault_of : Reply → Fault
fault_of (Refused fault) = fault
fault_of reply = NoSession

-- the session of the party begins, and its connection stays as it is
abbrev pub Begins : Party → Option Exchange → Option Session → Option Exchange → Bool → Type 0
Begins party e None f is_open = ⊥
Begins party e (Some s) f is_open = (s.party ≡ party) × IsSession s [] × (f ≡ e) × (is_open ≡ true)

-- there is no session, and the connection is closed
abbrev pub IsRefused : ℕ → Fault → Option Exchange → Option Session → Option Exchange → Bool → Type 0
IsRefused code fault e result f is_open = (result ≡ None) × Tells (with_close code (reason_of fault)) e f × (is_open ≡ false)

-- the session begins as the topic's reply has it, or the connection is closed with its refusal
abbrev pub BeginsBy : ℕ → Reply → Option Party → Option Exchange → Option Session → Option Exchange → Bool → Type 0
BeginsBy code reply None e result f is_open = IsRefused code (fault_of reply) e result f is_open
BeginsBy code reply (Some party) e result f is_open = Begins party e result f is_open

-- the event is called, and the session begins by its reply
abbrev pub JoinsBy : Event → ℕ → (Reply → Option Party) → Option Exchange → Option (List Call) → Option Session → Option Exchange → Option (List Call) → Bool → Type 0
JoinsBy event code party e c result f d is_open =
    (reply : Reply) × Tells (with_call (event_call event reply)) c d × BeginsBy code reply (party reply) e result f is_open

-- the same; or there was no memory for that, and nothing is called
abbrev pub OpensBy : Event → ℕ → (Reply → Option Party) → Option Exchange → Option (List Call) → Option Session → Option Exchange → Option (List Call) → Bool → Type 0
OpensBy event code party e c result f d is_open = JoinsBy event code party e c result f d is_open ⊎ ((d ≡ c) × IsRefused 4008 NoMemory e result f is_open)

-- A session at the endpoint begins, or its connection is closed. A producer's takes no memory.
abbrev pub Opens : Endpoint → Option Exchange → Option (List Call) → Option Session → Option Exchange → Option (List Call) → Bool → Type 0
Opens (Producer p) e c result f d is_open = JoinsBy (joins_producer p) 4001 (producer_party p.base) e c result f d is_open
Opens (Consumer s) e c result f d is_open = OpensBy (joins_consumer s) 4002 (consumer_party s.subscription) e c result f d is_open
Opens (Admin a) e c result f d is_open = (d ≡ c) × Begins AsAdmin e result f is_open
