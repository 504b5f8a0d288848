-- The last step of a turn that closes its session: what is ready is sent before.
use Rattle.std.specs.Prelude.{◌≡◌, ◌⊎◌, ℕ, List, Bool, true, false, Option, Some, None}
use Rattle.session_links.specs.Links.{Exchange, Call}
use Rattle.session_texts.specs.declared.close.Close.{Close}
use Rattle.session_texts.specs.Unsent.{Unsent}
use Rattle.session_core.specs.declared.session.Session.{Session}
use Rattle.session_core.specs.declared.stop.Stop.{Stop}
use Rattle.session_core.specs.declared.stop.Stop.TheVariants.{Gone as Left, Closed}
use Rattle.session_core.specs.Turns.{Turn}
use Rattle.session_core.specs.Sending.{IsBlocked, IsReady}
use Rattle.session_core.specs.Runs.{SendsBeforeClose, StopsBy, StopsItself, close_of}
use Rattle.session_core.specs.Held.{unsent_of}
use Rattle.session_core.specs.Steps.{SendsSome, Serves, wanting_memory}

-- how the sending before a close ended: with that close; or, with something left that is ready, the connection failed, or there was no
-- memory for what it had room for
abbrev pub EndsLast : Close → ℕ → List Unsent → Stop → Bool → Bool → Type 0
EndsLast close durable left last is_open has_room =
    ((last ≡ Closed close) × (is_open ≡ true) × (has_room ≡ true → IsBlocked durable left))
    ⊎ (IsReady durable left × (((last ≡ Left) × (is_open ≡ false)) ⊎ ((last ≡ wanting_memory) × (is_open ≡ true) × (has_room ≡ true))))

-- what is ready was sent before a close; where the client is gone, nothing is
abbrev pub SendsLast : Session → Stop → Option Exchange → Bool → Bool → Stop → Session → Option Exchange → Bool → Bool → Type 0
SendsLast s Left e was_open had_room last t f is_open has_room = (last ≡ Left) × (t ≡ s) × (f ≡ e) × (is_open ≡ was_open) × (has_room ≡ had_room)
SendsLast s (Closed close) e was_open had_room last t f is_open has_room = SendsSome s e t f × EndsLast close s.durable (unsent_of t) last is_open has_room

-- how a turn stops before it sends what is ready: where a text or a call closes the session, by that
abbrev pub StopsAtOnce : Option Close → Turn → Type 0
StopsAtOnce (Some close) t = t.stop ≡ Some (Closed close)
StopsAtOnce None t = StopsItself t

-- a turn but for what is sent before a close; what the connection had told when the session asked, and whether it had room then
pub record ServesOpen (s : Session) (now most : ℕ) (e : Option Exchange) (c : Option (List Call)) (stop : Option Stop) (t : Session) (f : Option Exchange) (d : Option (List Call)) (is_open has_room : Bool) (told : Option Exchange) (had_room : Bool) : Type 0 where
  pub serves : Serves s now most e c stop t f d is_open has_room told had_room
  pub stops : StopsAtOnce (close_of serves.turn) serves.turn

-- a turn, with what is sent before a close
pub record ServesLast (s : Session) (now most : ℕ) (e : Option Exchange) (c : Option (List Call)) (stop : Option Stop) (t : Session) (f : Option Exchange) (d : Option (List Call)) (is_open has_room : Bool) (told : Option Exchange) (had_room : Bool) : Type 0 where
  pub serves : Serves s now most e c stop t f d is_open has_room told had_room
  pub stops : StopsBy (close_of serves.turn) serves.turn t.durable (unsent_of t)
  pub closes : SendsBeforeClose serves.turn t.durable (unsent_of t)
