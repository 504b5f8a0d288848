-- A session's life goes on with its turns.
use Rattle.std.proofs.Common.{◌≡◌, ℕ, List, [], ◌∷◌, map, Bool, Option, Some, None, option_map, IsSome, inl, inr, refl, sym, ap, ◌∙◌, subst}
use Rattle.position_core.specs.declared.fault.Fault.{Fault}
use Rattle.position_core.specs.declared.fault.Fault.TheVariants.{NoMemory}
use Rattle.delivery_machine.specs.declared.event.Event.{Event}
use Rattle.delivery_machine.specs.declared.reply.Reply.{Reply}
use Rattle.endpoint_core.specs.declared.routes.Endpoint.{Endpoint}
use Rattle.endpoint_core.specs.declared.routes.Endpoint.TheVariants.{Producer, Consumer, Admin}
use Rattle.session_links.specs.declared.request.Request.TheVariants.{Event as OfEvent}
use Rattle.session_links.specs.Links.{Call, Exchange, Tells, event_call}
use Rattle.session_texts.specs.declared.party.Party.{Party}
use Rattle.session_texts.specs.declared.party.Party.TheVariants.{Admin as AsAdmin}
use Rattle.session_texts.specs.Outcomes.{farewell_of}
use Rattle.session_core.specs.declared.session.Session.{Session}
use Rattle.session_core.specs.declared.stop.Stop.{Stop}
use Rattle.session_core.specs.Turns.{Turn, and_one, called, closed, exchanged}
use Rattle.session_core.specs.Runs.{IsRun, IsServed, IsSession, SaysFarewell}
use Rattle.session_core.specs.Opening.{Begins, BeginsBy, IsRefused, JoinsBy, Opens, consumer_party, fault_of, joins_consumer, joins_producer, producer_party}
use Rattle.session_core.specs.Lives.{Began, BeginsLife, HasLived, IsLived, KeepsLife, Life, Refuses, Tell, and_turn, called_by, exchanged_in, farewells, joins, party_of, refusal_code}
use Rattle.session_core.proofs.Telling.{tells_nothing, tells_then}

-- what was told goes on with the turn
pub tell_on : (life : Life) (t : Turn) (e0 e f : Option Exchange) (c0 c d : Option (List Call)) → Tell life e0 c0 e c → Tells (exchanged t) e f → Tells (called t) c d → Tell (and_turn life t) e0 c0 f d
tell_on life t e0 e f c0 c d k exchange calls = record {
  exchange = tells_then (exchanged_in life.turns) (exchanged t) (exchanged_in (t ∷ life.turns)) e0 e f k.exchange exchange (λ x. refl);
  calls = tells_then (called_by life) (called t) (called_by (and_turn life t)) c0 c d k.calls calls (λ x. refl);
}

-- a turn that does not end the session says no farewell
pub says_none : (party : Party) (stop : Option Stop) (farewell : Option Call) → stop ≡ None → SaysFarewell party stop farewell → farewell ≡ None
says_none party None farewell is says = says
says_none party (Some stop) farewell is says = absurd (cc)

-- one that does says that of its party
pub says_one : (party : Party) (stop : Option Stop) (reason : Stop) (farewell : Option Call) → stop ≡ Some reason → SaysFarewell party stop farewell
    → map (λ (call : Call). call.request) (and_one [] farewell) ≡ and_one [] (option_map OfEvent (farewell_of party))
says_one party None reason farewell is says = absurd (cc)
says_one party (Some stop) reason None is says = ap (λ x. and_one [] x) says
says_one party (Some stop) reason (Some call) is says = ap (λ x. and_one [] x) says

-- the session goes on living
pub lives_on : (endpoint : Endpoint) (life : Life) (s t : Session) (turn : Turn) (e0 e f : Option Exchange) (c0 c d : Option (List Call)) → IsLived endpoint life s e0 c0 e c
    → t.party ≡ s.party → turn.stop ≡ None → SaysFarewell s.party turn.stop turn.farewell → IsSession t (turn ∷ life.turns) → Tells (exchanged turn) e f → Tells (called turn) c d
    → IsLived endpoint (and_turn life turn) t e0 c0 f d
lives_on endpoint life s t turn e0 e f c0 c d k party goes says session exchange calls = record {
  began = subst (Began endpoint life.opening) (sym party) k.began;
  session = session;
  tell = tell_on life turn e0 e f c0 c d k.tell exchange calls;
  closes = λ x. ap (λ stop. closed stop (exchanged_in life.turns x).closes) goes ∙ k.closes x;
  farewell = ap (λ l. and_one (farewells life.turns) l) (says_none s.party turn.stop turn.farewell goes says) ∙ k.farewell;
}

-- the session has ended
pub lived_so : (endpoint : Endpoint) (life : Life) (s : Session) (turn : Turn) (reason : Stop) (e0 e f : Option Exchange) (c0 c d : Option (List Call)) → IsLived endpoint life s e0 c0 e c
    → turn.stop ≡ Some reason → SaysFarewell s.party turn.stop turn.farewell → IsRun s.party (turn ∷ life.turns) → Tells (exchanged turn) e f → Tells (called turn) c d
    → HasLived endpoint (and_turn life turn) e0 c0 f d
lived_so endpoint life s turn reason e0 e f c0 c d k ends says run exchange calls = record {
  party = s.party;
  began = k.began;
  run = run;
  stop = reason;
  ended = ends;
  tell = tell_on life turn e0 e f c0 c d k.tell exchange calls;
  closes = λ x. ap (λ stop. closed stop (exchanged_in life.turns x).closes) ends ∙ ap (λ l. closed (Some reason) l) (k.closes x);
  farewell = ap (λ l. map (λ (call : Call). call.request) (and_one l turn.farewell)) k.farewell ∙ says_one s.party turn.stop reason turn.farewell ends says;
}

-- A turn keeps the life.
pub keeps_life : (s : Session) (now most : ℕ) (e f : Option Exchange) (c d : Option (List Call)) (result : Option Session) (is_open has_room : Bool)
    → ((before : List Turn) → IsSession s before → IsServed s now most before e c result f d is_open has_room) → KeepsLife s e c result f d
keeps_life s now most e f c d None is_open has_room served endpoint life e0 c0 k =
    let h = served life.turns k.session in
    (h.turn, by_stop h.turn.stop h refl h.session)
  where
    by_stop : (stop : Option Stop) → (h : IsServed s now most life.turns e c None f d is_open has_room) → h.turn.stop ≡ stop → IsSome stop → HasLived endpoint (and_turn life h.turn) e0 c0 f d
    by_stop None h is some = absurd (cc)
    by_stop (Some reason) h is some = lived_so endpoint life s h.turn reason e0 e f c0 c d k is h.is_turn.farewell (k.session.run, k.session.goes_on, h.is_turn) h.exchange h.calls
keeps_life s now most e f c d (Some t) is_open has_room served endpoint life e0 c0 k =
    let h = served life.turns k.session in
    (h.turn, lives_on endpoint life s t h.turn e0 e f c0 c d k h.session.1 h.session.0 h.is_turn.farewell h.session.2 h.exchange h.calls)

-- a session of the party began
pub begins_so : (endpoint : Endpoint) (opening : Option Call) (party : Party) (e f : Option Exchange) (c d : Option (List Call)) (result : Option Session) (is_open : Bool)
    → Began endpoint opening party → Tells (λ calls. and_one calls opening) c d → Begins party e result f is_open → BeginsLife endpoint e c result f d
begins_so endpoint opening party e f c d None is_open began calls k = absurd k
begins_so endpoint opening party e f c d (Some s) is_open began calls (is, session, same, o) = (
  opening,
  record {
    began = subst (Began endpoint opening) (sym is) began;
    session = session;
    tell = record {
      exchange = subst (Tells (exchanged_in []) e) (sym same) (tells_nothing (exchanged_in []) e (λ x. refl));
      calls = calls;
    };
    closes = λ x. refl;
    farewell = refl;
  },
)

-- no session began
pub refused_so : (endpoint : Endpoint) (opening : Option Call) (code : ℕ) (fault : Fault) (e f : Option Exchange) (c d : Option (List Call)) (result : Option Session) (is_open : Bool)
    → Refuses endpoint opening code fault → Tells (λ calls. and_one calls opening) c d → IsRefused code fault e result f is_open → BeginsLife endpoint e c result f d
refused_so endpoint opening code fault e f c d result is_open why calls (none, told, o) =
    subst (λ x. BeginsLife endpoint e c x f d) (sym none) (opening, record { code = code; fault = fault; refuses = why; exchange = told; calls = calls })

-- it began, or not, by the reply to its event
pub joins_by : (endpoint : Endpoint) (event : Event) (by : Reply → Option Party) (e f : Option Exchange) (c d : Option (List Call)) (result : Option Session) (is_open : Bool)
    → Some event ≡ joins endpoint → ((reply : Reply) → party_of endpoint (Some (event_call event reply)) ≡ by reply)
    → JoinsBy event (refusal_code endpoint) by e c result f d is_open → BeginsLife endpoint e c result f d
joins_by endpoint event by e f c d result is_open joined is (reply, calls, k) = by_party (by reply) (is reply) k
  where
    by_party : (party : Option Party) → party_of endpoint (Some (event_call event reply)) ≡ party → BeginsBy (refusal_code endpoint) reply party e result f is_open
        → BeginsLife endpoint e c result f d
    by_party None nobody k = refused_so endpoint (Some (event_call event reply)) (refusal_code endpoint) (fault_of reply) e f c d result is_open (ap (option_map OfEvent) joined, nobody, refl, refl) calls k
    by_party (Some party) named k = begins_so endpoint (Some (event_call event reply)) party e f c d result is_open (record { event = ap (option_map OfEvent) joined; is_party = named }) calls k

-- A session that begins begins its life.
pub begins_life : (endpoint : Endpoint) (e f : Option Exchange) (c d : Option (List Call)) (result : Option Session) (is_open : Bool) → Opens endpoint e c result f d is_open → BeginsLife endpoint e c result f d
begins_life (Producer p) e f c d result is_open k = joins_by (Producer p) (joins_producer p) (producer_party p.base) e f c d result is_open refl (λ reply. refl) k
begins_life (Consumer s) e f c d result is_open (inl k) = joins_by (Consumer s) (joins_consumer s) (consumer_party s.subscription) e f c d result is_open refl (λ reply. refl) k
begins_life (Consumer s) e f c d result is_open (inr (same, k)) =
    refused_so (Consumer s) None 4008 NoMemory e f c d result is_open (refl, refl) (subst (Tells (λ calls. calls) c) (sym same) (tells_nothing (λ calls. calls) c (λ x. refl))) k
begins_life (Admin a) e f c d result is_open (same, k) =
    begins_so (Admin a) None AsAdmin e f c d result is_open (record { event = refl; is_party = refl }) (subst (Tells (λ calls. calls) c) (sym same) (tells_nothing (λ calls. calls) c (λ x. refl))) k
