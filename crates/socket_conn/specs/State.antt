-- What a connection keeps beside its socket, and what each call makes of that.
use Rattle.std.specs.Prelude.{◌≡◌, ◌⊎◌, ◌+◌, ◌-◌, ◌^◌, ◌&&◌, not, nat_lt, min, length, ℕ, List, Bool, true, false, Option, Some, None}
use Rattle.socket_conn.specs.Faults.{no_faults, one_more}
use Rattle.socket_conn.specs.Traffic.{no_traffic}
use Rattle.socket_conn.specs.Waits.{HasNotWaited, HasWaited}
use Rattle.socket_conn.specs.declared.conn.SocketConn.{SocketConn}
use Rattle.tungstenite.specs.Socket.{Socket}
use Rattle.websocket.specs.declared.protocol.frame.coding.CloseCode.{CloseCode}
use Rattle.websocket.specs.CloseCode.{is_allowed}
use Rattle.websocket.specs.Connection.{can_write}

-- how many bytes may be unsent before no further text is taken
abbrev pub most_unsent : ℕ
most_unsent = 65536

module _ {S : Type 0} where
  -- it takes a text: it is open and not blocked, and fewer than 65,536 bytes are unsent
  abbrev pub is_roomy : SocketConn S → Bool
  is_roomy c = c.is_open && not c.is_blocked && nat_lt c.unsent most_unsent

  -- it says a close: it is not lost, no close was said or came, and the code is one that may be sent (RFC 6455, section 7.4)
  abbrev pub says_close : SocketConn S → CloseCode → Bool
  says_close c code = not c.is_lost && can_write c.socket.conn.state && is_allowed code

  -- at its beginning: there may be something to read, and nothing was received or is unsent
  abbrev pub begun : Socket S → SocketConn S
  begun socket =
      record {
        socket = socket;
        is_open = true;
        is_lost = false;
        is_readable = true;
        is_blocked = false;
        unsent = 0;
        received = 0;
        is_heard = false;
        taken = no_traffic;
        breach = None;
        faults = no_faults;
      }

  -- the same, where its socket has come to this
  abbrev pub over : Socket S → SocketConn S → SocketConn S
  over socket c = record c { socket = socket }

  -- the same, where the stream of its socket has come to this
  abbrev pub over_stream : S → SocketConn S → SocketConn S
  over_stream stream c = over (record c.socket { stream = stream }) c

  -- given up: the next receive says that the client has gone
  abbrev pub hung_up : SocketConn S → SocketConn S
  hung_up c = record c { is_lost = true; is_readable = true; is_blocked = false }

  -- lost: the client learns nothing more
  abbrev pub lost : SocketConn S → SocketConn S
  lost c = record c { is_lost = true }

  -- the stream did not take all output
  abbrev pub blocked : SocketConn S → SocketConn S
  blocked c = record c { is_blocked = true }

  -- all output has left
  abbrev pub emptied : SocketConn S → SocketConn S
  emptied c = record c { unsent = 0; is_blocked = false }

  -- these bytes are unsent too
  abbrev pub with_unsent : List ℕ → SocketConn S → SocketConn S
  with_unsent words c = record c { unsent = min (c.unsent + length words) (2 ^ 64 - 1) }

  -- one message more was received
  abbrev pub with_received : SocketConn S → SocketConn S
  with_received c = record c { received = min (c.received + 1) (2 ^ 32 - 1) }

  -- one message more was received, of which the client is heard: a text, a binary message or a pong
  abbrev pub with_heard : SocketConn S → SocketConn S
  with_heard c = record (with_received c) { is_heard = true }

  -- nothing more has come yet
  abbrev pub drained : SocketConn S → SocketConn S
  drained c = record c { is_readable = false }

  -- it may not be called any more
  abbrev pub ended : SocketConn S → SocketConn S
  ended c = record c { is_open = false }

  -- something that it asked for has failed
  abbrev pub failed : SocketConn S → SocketConn S
  failed c = record c { faults = one_more c.faults }

  -- something that it asked for has failed in between
  abbrev pub HasFailed : SocketConn S → SocketConn S → Type 0
  HasFailed old new = ¬ (new.faults ≡ old.faults)

  -- a breach of the protocol is noted by its code, where there was one
  abbrev pub noting : Option CloseCode → SocketConn S → SocketConn S
  noting None c = c
  noting (Some code) c = record c { breach = Some code }

  -- what a flush leaves, whose answer tells whether all output left: else the socket's flush has failed. Where the stream did not take
  -- the output, that is noted; where it failed otherwise, the connection is given up
  abbrev pub Flushes : (full : S → ℕ) → SocketConn S → SocketConn S → Bool → Type 0
  Flushes full old new true = new ≡ over new.socket (emptied old)
  Flushes full old new false =
      ((new ≡ over new.socket (blocked (failed old))) × HasWaited full old.socket new.socket)
      ⊎ ((new ≡ over new.socket (hung_up (failed old))) × HasNotWaited full old.socket new.socket)

  -- what a write leaves: the stream may have to wait, which is noted
  abbrev pub StaysOrBlocks : (full : S → ℕ) → SocketConn S → SocketConn S → Type 0
  StaysOrBlocks full old new =
      (new ≡ over new.socket old) ⊎ ((new ≡ over new.socket (blocked old)) × HasWaited full old.socket new.socket)
