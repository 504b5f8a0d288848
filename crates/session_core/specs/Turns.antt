-- A turn of a session: what was taken, asked and sent in it, and what all that adds up to.
use Rattle.std.specs.Prelude.{ℕ, List, [], ◌∷◌, ◌++◌, Bool, Option, Some, None, Result, option_map}
use Rattle.position_core.specs.declared.fault.Fault.{Fault}
use Rattle.session_links.specs.Links.{Receipt, came, nothing, gone, Closing, Exchange, Call}
use Rattle.session_texts.specs.declared.close.Close.{Close}
use Rattle.session_texts.specs.Numbers.{reason_of}
use Rattle.session_core.specs.Asking.{Asked}
use Rattle.session_core.specs.declared.stop.Stop.{Stop}
use Rattle.session_core.specs.declared.stop.Stop.TheVariants.{Gone, Closed}

-- what comes that is no text: nothing, or that the client is gone
pub data Silence : Type 0 where
  quiet : Silence
  ended : Silence

abbrev pub receipt_of_silence : Silence → Receipt
receipt_of_silence quiet = nothing
receipt_of_silence ended = gone

-- a text that came, the call that it led to, where it led to one, what was seen of the broker, where it asked for that, and the close,
-- where it closed the session
pub record Taken : Type 0 where
  pub text : List ℕ
  pub call : Option Call
  pub shown : Option (Result (List ℕ) Fault)
  pub close : Option Close

-- One turn, of at most so many texts. The texts have the latest first.
pub record Turn : Type 0 where
  pub now : ℕ
  pub most : ℕ
  -- the texts
  pub taken : List Taken
  -- what came that was no text
  pub silence : Option Silence
  -- what the session asked of its own accord, and whether it was free to send more then
  pub asked : Asked
  pub was_free : Bool
  -- what was sent, in order, and what of it before the session asked
  pub sent : List (List ℕ)
  pub sent_first : List (List ℕ)
  -- whether the connection may be called afterwards, and whether it has room
  pub is_open : Bool
  pub has_room : Bool
  -- how the session ended, where it did, and the call that it ended with
  pub stop : Option Stop
  pub farewell : Option Call

-- these, and then those of the list, which has the latest first
abbrev pub and_then : {A : Type 0} → List A → List A → List A
and_then these [] = these
and_then these (x ∷ before) = and_then these before ++ x ∷ []

-- these, and this one where there is one
abbrev pub and_one : {A : Type 0} → List A → Option A → List A
and_one these None = these
and_one these (Some x) = these ++ x ∷ []

-- the calls, and those that the texts led to
abbrev pub calls_of_texts : List Call → List Taken → List Call
calls_of_texts calls [] = calls
calls_of_texts calls (taken ∷ before) = and_one (calls_of_texts calls before) taken.call

-- the calls, and what was asked
abbrev pub calls_of_asked : List Call → Asked → List Call
calls_of_asked calls asked = and_one (and_then (and_then calls asked.ticks) asked.dispatches) asked.last

-- the calls, and those of the turn in their order
abbrev pub called : Turn → List Call → List Call
called t calls = and_one (calls_of_asked (calls_of_texts calls t.taken) t.asked) t.farewell

-- what was received, and the texts of the turn
abbrev pub texts_received : List Receipt → List Taken → List Receipt
texts_received received [] = received
texts_received received (taken ∷ before) = texts_received received before ++ came taken.text ∷ []

-- the closes, and that of the turn
abbrev pub closed : Option Stop → List Closing → List Closing
closed None closes = closes
closed (Some Gone) closes = closes
closed (Some (Closed close)) closes = closes ++ (record { code = close.code; reason = reason_of close.fault }) ∷ []

-- without its stop, a turn tells the connection nothing of a close
abbrev pub without_stop : Turn → Turn
without_stop t = record t { stop = None }

-- a turn as far as its asking
abbrev pub until_asking : Turn → Turn
until_asking t = record t { sent = t.sent_first; stop = None }

-- what the connection was told, and what the turn told it
abbrev pub exchanged : Turn → Exchange → Exchange
exchanged t e = record {
  received = and_one (texts_received e.received t.taken) (option_map receipt_of_silence t.silence);
  sent = e.sent ++ t.sent;
  closes = closed t.stop e.closes;
}
