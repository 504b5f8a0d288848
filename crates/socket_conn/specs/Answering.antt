-- A response on its way over a stream that does not block.
use Rattle.std.specs.Prelude.{◌≡◌, ⊤, ℕ, List, [], drop, Option, false}
use Rattle.std.specs.Io.KnownBytes.{append_known}
use Rattle.std.specs.declared.io.ErrorKind.{ErrorKind}
use Rattle.std.specs.declared.io.ErrorKind.TheVariants.{Interrupted, WouldBlock}
use Rattle.socket_conn.specs.declared.answering.Answered.{Answered}
use Rattle.socket_conn.specs.declared.answering.Answered.TheVariants.{Whole, GoesOn, Waits, Failed}
use Rattle.socket_conn.specs.declared.answering.Answering.{Answering}
use Rattle.socket_conn.specs.declared.held.Held.{Held}

-- what a failed write comes to
abbrev pub stopped : ErrorKind → Answered
stopped WouldBlock = Waits
stopped Interrupted = GoesOn
stopped kind = Failed

module _ {S : Type 0} where
  -- what of the response has not gone
  abbrev pub left : Answering S → List ℕ
  left a = drop a.stream.at a.stream.first.items

  -- what went to the stream, and behind it what of the response has not gone
  abbrev pub sent_and_left : (S → Option (List ℕ)) → Answering S → Option (List ℕ)
  sent_and_left contents a = append_known (contents a.stream.inner) (left a)

  -- the response is the same and stays let go: more of it may have gone and been counted, and the stream may have had to wait
  abbrev pub HasWritten : Answering S → Answering S → Type 0
  HasWritten old new = new.stream ≡ record old.stream { inner = new.stream.inner; at = new.stream.at; full = new.stream.full; traffic = new.stream.traffic }

  -- what a write comes to: the whole has gone; or the stream was asked and took nothing, which it has counted, and not else
  abbrev pub ComesTo : Answering S → Answering S → Answered → Type 0
  ComesTo old new Whole = left new ≡ []
  ComesTo old new GoesOn = new.stream.full ≡ old.stream.full
  ComesTo old new Waits = ¬ (new.stream.full ≡ old.stream.full)
  ComesTo old new Failed = ⊤

  -- a response goes out over the stream that was held back, from its first byte on, and nothing of what was held back does
  abbrev pub IsTurnedAway : Held S → List ℕ → Answering S → Type 0
  IsTurnedAway held response a = (a.stream.inner ≡ held.inner) × (left a ≡ response) × (a.stream.is_held ≡ false)
