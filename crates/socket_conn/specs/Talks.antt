-- What the calls of a connection do with its socket: a receive reads one message of it, and a send writes one.
use Rattle.std.specs.Prelude.{◌≡◌, ◌⊎◌, ◌++◌, ⊤, ℕ, List, [], Bool, true, false, Option, Some, None, Result, Ok, Err, IsErr, MatchBool}
use Rattle.std.specs.IoError.{error_kind}
use Rattle.std.specs.Io.KnownBytes.{Appends, Consumes, append_known}
use Rattle.std.specs.declared.io.ErrorKind.TheVariants.{WouldBlock}
use Rattle.session_links.specs.declared.conn.ConnFault.{ConnFault}
use Rattle.session_links.specs.declared.conn.Incoming.{Incoming}
use Rattle.session_links.specs.declared.conn.Incoming.TheVariants as Said
use Rattle.socket_conn.specs.declared.outcomes.Came.{Came}
use Rattle.socket_conn.specs.declared.outcomes.Signs.{Signs}
use Rattle.socket_conn.specs.declared.conn.SocketConn.{SocketConn}
use Rattle.socket_conn.specs.Faults.{after_read}
use Rattle.socket_conn.specs.Waits.{HasNotWaited, HasWaited}
use Rattle.socket_conn.specs.State.{Flushes, HasFailed, over, emptied, failed, drained, ended, noting, with_heard, with_received, lost}
use Rattle.tungstenite.specs.declared.error.Error.{Error}
use Rattle.tungstenite.specs.declared.error.Error.TheVariants as Why
use Rattle.tungstenite.specs.declared.message.Message.{Message}
use Rattle.tungstenite.specs.declared.message.Message.TheVariants as Kind
use Rattle.tungstenite.specs.Failure.{IsOutside, of_frame}
use Rattle.tungstenite.specs.Socket.{Socket, Run, Runs, Replies, EndsWith, Flushed, Reads, content_of}
use Rattle.websocket.specs.declared.error.Error.{Error as FrameError}
use Rattle.websocket.specs.declared.protocol.config.Role.{Role}
use Rattle.websocket.specs.declared.protocol.frame.coding.CloseCode.{CloseCode}
use Rattle.websocket.specs.declared.protocol.frame.coding.CloseCode.TheVariants.{Protocol, Invalid, Size}
use Rattle.websocket.specs.declared.protocol.frame.coding.Data.TheVariants as Data
use Rattle.websocket.specs.declared.protocol.frame.coding.OpCode.TheVariants as Op
use Rattle.websocket.specs.declared.protocol.message.Received.{Received}
use Rattle.websocket.specs.declared.protocol.state.WebSocketState.TheVariants.{Active, ClosedByUs}
use Rattle.websocket.specs.declared.protocol.frame.coding.Control.TheVariants as Control
use Rattle.websocket.specs.Connection.{Effect, IsMaskOf, whole_header}
use Rattle.websocket.specs.Content.{close_payload, received_content}
use Rattle.websocket.specs.Frame.{encode_frame}

-- ---- what a read gave

-- a text message or a binary message with these bytes
abbrev pub HasBytes : List ℕ → Message → Type 0
HasBytes bytes (Kind.Text s) = bytes ≡ s
HasBytes bytes (Kind.Binary s) = bytes ≡ s
HasBytes bytes (Kind.Ping s) = ⊥
HasBytes bytes (Kind.Pong s) = ⊥
HasBytes bytes (Kind.Close frame) = ⊥

-- a text message or a binary message
abbrev pub IsData : Message → Type 0
IsData (Kind.Text s) = ⊤
IsData (Kind.Binary s) = ⊤
IsData (Kind.Ping s) = ⊥
IsData (Kind.Pong s) = ⊥
IsData (Kind.Close frame) = ⊥

abbrev pub IsPing : Message → Type 0
IsPing (Kind.Text s) = ⊥
IsPing (Kind.Binary s) = ⊥
IsPing (Kind.Ping s) = ⊤
IsPing (Kind.Pong s) = ⊥
IsPing (Kind.Close frame) = ⊥

abbrev pub IsPong : Message → Type 0
IsPong (Kind.Text s) = ⊥
IsPong (Kind.Binary s) = ⊥
IsPong (Kind.Ping s) = ⊥
IsPong (Kind.Pong s) = ⊤
IsPong (Kind.Close frame) = ⊥

abbrev pub IsClose : Message → Type 0
IsClose (Kind.Text s) = ⊥
IsClose (Kind.Binary s) = ⊥
IsClose (Kind.Ping s) = ⊥
IsClose (Kind.Pong s) = ⊥
IsClose (Kind.Close frame) = ⊤

-- the stream would have to wait
abbrev pub WouldWait : Error → Type 0
WouldWait (Why.Io cause) = error_kind cause ≡ WouldBlock
WouldWait error = ⊥

-- the client has closed
abbrev pub SaysClosed : Error → Type 0
SaysClosed Why.ConnectionClosed = ⊤
SaysClosed Why.AlreadyClosed = ⊤
SaysClosed error = ⊥

-- the code that a breach of the protocol is closed with (RFC 6455, section 7.4.1): broken framing, a text that is no UTF-8,
-- or a message that is too long
abbrev pub breach_of : Error → Option CloseCode
breach_of (Why.Protocol cause) = Some Protocol
breach_of Why.Utf8 = Some Invalid
breach_of (Why.Capacity cause) = Some Size
breach_of error = None

-- what a message comes to that was read
abbrev pub MessageComesTo : Message → Came → Type 0
MessageComesTo message (Came.Text bytes) = HasBytes bytes.items message
MessageComesTo message Came.Ping = IsPing message
MessageComesTo message Came.Pong = IsPong message
MessageComesTo message Came.Nothing = ⊥
MessageComesTo message Came.Spent = ⊥
MessageComesTo message Came.Closes = IsClose message
MessageComesTo message (Came.Breaks code) = ⊥
MessageComesTo message Came.Lost = IsData message
MessageComesTo message Came.Fails = ⊥

-- what the bytes of a text or a binary message come to: to themselves, where there was memory for them
abbrev pub IsDataOf : List ℕ → Came → Type 0
IsDataOf bytes (Came.Text copy) = copy.items ≡ bytes
IsDataOf bytes Came.Lost = ⊤
IsDataOf bytes came = ⊥

-- what a message comes to that lies in this input
abbrev pub ComesFrom : List ℕ → Received → Came → Type 0
ComesFrom input received came =
    (message : Message) × (content_of message ≡ received_content input received) × MessageComesTo message came

-- what a frame comes to that gave this, read from this input
abbrev pub GivesAs : List ℕ → Option Received → Option Came → Type 0
GivesAs input None given = given ≡ None
GivesAs input (Some received) None = ⊥
GivesAs input (Some received) (Some came) = ComesFrom input received came

-- what it comes to that the stream would have to wait: it has given all that it may in a turn; or it had nothing to give; or it was
-- not asked, which is a failure
abbrev pub WaitComesTo : Signs → Came → Type 0
WaitComesTo signs Came.Spent = signs.is_spent ≡ true
WaitComesTo signs Came.Nothing = (signs.is_spent ≡ false) × (signs.is_dry ≡ true)
WaitComesTo signs Came.Fails = (signs.is_spent ≡ false) × (signs.is_dry ≡ false)
WaitComesTo signs came = ⊥

-- what an error comes to, where the stream gave these signs meanwhile
abbrev pub ErrorComesTo : Signs → Error → Came → Type 0
ErrorComesTo signs error (Came.Text bytes) = ⊥
ErrorComesTo signs error Came.Ping = ⊥
ErrorComesTo signs error Came.Pong = ⊥
ErrorComesTo signs error Came.Nothing = WouldWait error × WaitComesTo signs Came.Nothing
ErrorComesTo signs error Came.Spent = WouldWait error × WaitComesTo signs Came.Spent
ErrorComesTo signs error Came.Closes = SaysClosed error
ErrorComesTo signs error (Came.Breaks code) = breach_of error ≡ Some code
ErrorComesTo signs error Came.Lost = ⊥
ErrorComesTo signs error Came.Fails = (WouldWait error → WaitComesTo signs Came.Fails) × (¬ SaysClosed error) × (breach_of error ≡ None)

-- what a read comes to by what it gave
abbrev pub GivenComesTo : Signs → Result Message Error → Came → Type 0
GivenComesTo signs (Ok message) came = MessageComesTo message came
GivenComesTo signs (Err error) came = ErrorComesTo signs error came

-- what a read comes to: where a message had more frames than it may, whatever was given, to a message that is too long
abbrev pub ComesTo : Signs → Result Message Error → Came → Type 0
ComesTo signs given came = MatchBool signs.is_over (came ≡ Came.Breaks Size) (GivenComesTo signs given came)

-- the same of a read whose message has come to this, or which gave this error
abbrev pub IsGiven : Signs → Result Came Error → Came → Type 0
IsGiven signs (Ok came) outcome = outcome ≡ came
IsGiven signs (Err error) outcome = ErrorComesTo signs error outcome

abbrev pub IsOutcome : Signs → Result Came Error → Came → Type 0
IsOutcome signs read outcome = MatchBool signs.is_over (outcome ≡ Came.Breaks Size) (IsGiven signs read outcome)

module _ {S : Type 0} where
  -- a read of the socket gave a message that has come to this, or this error
  abbrev pub ReadsAs : (remaining : S → Option (List ℕ)) → Socket S → Socket S → Result Came Error → Type 0
  ReadsAs remaining old new (Ok came) = (message : Message) × Reads remaining old new (Ok message) × MessageComesTo message came
  ReadsAs remaining old new (Err error) = Reads remaining old new (Err error)

  -- all that waited to be sent left, and then one message was read: the bytes that the stream gave, behind those kept from
  -- before, begin with a run of frames, of which the last ends this message, and no other ends one
  abbrev pub ReadsMessage : (remaining contents : S → Option (List ℕ)) → Socket S → Socket S → Message → Type 0
  ReadsMessage remaining contents old new message =
      (idle : Socket S) × (run : Run) × (got : List ℕ) × (sent : List ℕ)
      × Flushed contents old idle × (idle.output ≡ [])
      × Consumes (remaining idle.stream) (remaining new.stream) got
      × Runs old.conn (old.input ++ got) run new.conn new.input
      × EndsWith run (content_of message)
      × Replies run [] (sent ++ new.output)

  -- all that waited to be sent left, and then a read gave no message, but this error
  abbrev pub ReadsError : (remaining contents : S → Option (List ℕ)) → Socket S → Socket S → Error → Type 0
  ReadsError remaining contents old new error =
      (idle : Socket S) × Flushed contents old idle × (idle.output ≡ []) × Reads remaining idle new (Err error)

  -- a read of either kind
  abbrev pub ReadsOnce : (remaining contents : S → Option (List ℕ)) → Socket S → Socket S → Result Message Error → Type 0
  ReadsOnce remaining contents old new (Ok message) = ReadsMessage remaining contents old new message
  ReadsOnce remaining contents old new (Err error) = ReadsError remaining contents old new error

  -- the connection was not read: nothing had come, or the stream was asked to take what waits and did not, or that failed
  abbrev pub ReadsNothing : (contents : S → Option (List ℕ)) (full : S → ℕ) → SocketConn S → SocketConn S → Type 0
  ReadsNothing contents full old new =
      ((old.is_readable ≡ false) × (new ≡ old)) ⊎ (Flushed contents old.socket new.socket × Flushes full old new false)

  -- the socket was read once, and what that gave comes to this
  abbrev pub Brings : (remaining : S → Option (List ℕ)) → Signs → Socket S → Socket S → Came → Type 0
  Brings remaining signs old new came = (given : Result Message Error) × Reads remaining old new given × ComesTo signs given came

  -- whether the stream had to wait since it counted so many
  abbrev pub WaitedSince : (S → ℕ) → ℕ → Socket S → Bool → Type 0
  WaitedSince times count socket has_waited = MatchBool has_waited (¬ (times socket.stream ≡ count)) (times socket.stream ≡ count)

  -- what the stream tells of a read, before which it had counted so often that it had nothing to give, and that it had given all that
  -- it may in a turn
  abbrev pub GivesSigns : (dry spent : S → ℕ) (is_over : S → Bool) → (dried spents : ℕ) → Socket S → Signs → Type 0
  GivesSigns dry spent is_over dried spents socket signs =
      WaitedSince dry dried socket signs.is_dry × WaitedSince spent spents socket signs.is_spent × (signs.is_over ≡ is_over socket.stream)

  -- what the connection does with what a read came to, and what it answers
  abbrev pub Takes : Came → SocketConn S → SocketConn S → Result Incoming ConnFault → Type 0
  Takes (Came.Text bytes) old new answer = (answer ≡ Ok (Said.Text bytes)) × (new ≡ with_heard old)
  Takes Came.Ping old new answer = (answer ≡ Ok Said.Nothing) × (new ≡ with_received old)
  Takes Came.Pong old new answer = (answer ≡ Ok Said.Nothing) × (new ≡ with_heard old)
  Takes Came.Nothing old new answer = (answer ≡ Ok Said.Nothing) × (new ≡ drained old)
  Takes Came.Spent old new answer = (answer ≡ Ok Said.Nothing) × (new ≡ old)
  Takes Came.Closes old new answer = (answer ≡ Ok Said.Gone) × (new ≡ ended old)
  Takes (Came.Breaks code) old new answer = IsErr answer × (new ≡ noting (Some code) (ended old))
  Takes Came.Lost old new answer = IsErr answer × (new ≡ ended old)
  Takes Came.Fails old new answer = IsErr answer × (new ≡ ended old)

  -- the read that came to this is counted, where it failed
  abbrev pub counted : Came → SocketConn S → SocketConn S
  counted came c = record c { faults = after_read came c.faults }

  -- what a connection comes to whose output left, and which then was read
  abbrev pub read_of : SocketConn S → SocketConn S → SocketConn S
  read_of old new = over new.socket (emptied old)

  -- no message had more frames than it may
  abbrev pub IsWithin : (is_over : S → Bool) → Socket S → Type 0
  IsWithin is_over socket = is_over socket.stream ≡ false

  -- a read that gave a ping; or a pong, of which the client is heard
  abbrev pub ReadsControl : (remaining contents : S → Option (List ℕ)) → SocketConn S → SocketConn S → Type 0
  ReadsControl remaining contents old new =
      (message : Message) × ReadsMessage remaining contents old.socket new.socket message
      × ((IsPing message × (new ≡ with_received (read_of old new))) ⊎ (IsPong message × (new ≡ with_heard (read_of old new))))

  -- a read that would block: the stream has given all that it may in a turn, and the connection may be read in the next; or the stream
  -- was asked and had nothing to give, which is noted
  abbrev pub ReadsAgain : (remaining contents : S → Option (List ℕ)) (dry spent : S → ℕ) → SocketConn S → SocketConn S → Type 0
  ReadsAgain remaining contents dry spent old new =
      (error : Error) × ReadsError remaining contents old.socket new.socket error × WouldWait error
      × ((HasWaited spent old.socket new.socket × (new ≡ read_of old new))
      ⊎ (HasNotWaited spent old.socket new.socket × HasWaited dry old.socket new.socket × (new ≡ drained (read_of old new))))

  -- a read that failed: there was no memory for a copy of the message; or the stream or the client has failed, of which a breach of
  -- the protocol is noted
  abbrev pub ReadsFault : (remaining contents : S → Option (List ℕ)) (dry spent : S → ℕ) → SocketConn S → SocketConn S → Type 0
  ReadsFault remaining contents dry spent old new =
      ((message : Message) × ReadsMessage remaining contents old.socket new.socket message × IsData message
      × (new ≡ ended (read_of (failed old) new)))
      ⊎ ((error : Error) × ReadsError remaining contents old.socket new.socket error
      × (WouldWait error → HasNotWaited spent old.socket new.socket × HasNotWaited dry old.socket new.socket) × (¬ SaysClosed error)
      × (new ≡ noting (breach_of error) (ended (read_of (failed old) new))))

  -- a read by which a message had more frames than it may, whatever it gave: that a message is too long is noted
  abbrev pub ReadsTooMany : (remaining contents : S → Option (List ℕ)) (is_over : S → Bool) → SocketConn S → SocketConn S → Type 0
  ReadsTooMany remaining contents is_over old new =
      (is_over new.socket.stream ≡ true)
      × ((given : Result Message Error) × ReadsOnce remaining contents old.socket new.socket given)
      × (new ≡ noting (Some Size) (ended (read_of (failed old) new)))

  -- what the socket did where the connection, before and after, gave this answer, and what else changed. A text: it read one
  -- message, of these bytes. Nothing: it was not read, or read a ping or a pong, or would block. Gone: it read a close, whose reply
  -- waits, or said that the client has closed. A fault: the connection was lost before, or the read failed. Once a message had more
  -- frames than it may, a read is a fault alone
  abbrev pub Receives : (remaining contents : S → Option (List ℕ)) (full dry spent : S → ℕ) (is_over : S → Bool) → SocketConn S → SocketConn S → Result Incoming ConnFault → Type 0
  Receives remaining contents full dry spent is_over old new (Ok (Said.Text bytes)) =
      IsWithin is_over new.socket
      × ((message : Message) × ReadsMessage remaining contents old.socket new.socket message × HasBytes bytes.items message
      × (new ≡ with_heard (read_of old new)))
  Receives remaining contents full dry spent is_over old new (Ok Said.Nothing) =
      ReadsNothing contents full old new
      ⊎ (IsWithin is_over new.socket × (ReadsControl remaining contents old new ⊎ ReadsAgain remaining contents dry spent old new))
  Receives remaining contents full dry spent is_over old new (Ok Said.Gone) =
      IsWithin is_over new.socket × (new ≡ ended (read_of old new))
      × (((message : Message) × ReadsMessage remaining contents old.socket new.socket message × IsClose message)
      ⊎ ((error : Error) × ReadsError remaining contents old.socket new.socket error × SaysClosed error))
  Receives remaining contents full dry spent is_over old new (Err fault) =
      ((old.is_lost ≡ true) × (new ≡ ended old))
      ⊎ (IsWithin is_over new.socket × ReadsFault remaining contents dry spent old new)
      ⊎ ReadsTooMany remaining contents is_over old new

-- ---- what was sent

-- why a write failed: the stream did, or memory, or the protocol does not take it
abbrev pub IsRefused : Result Effect FrameError → Error → Type 0
IsRefused step e = IsOutside e ⊎ ((x : FrameError) × (step ≡ Err x) × (e ≡ of_frame x))

-- the one frame that carries a text whole, under some mask of the role
abbrev pub IsTextFrame : Role → List ℕ → List ℕ → Type 0
IsTextFrame role words frame =
    (mask : Option (List ℕ)) × IsMaskOf role mask × (frame ≡ encode_frame (whole_header (Op.Data Data.Text) mask) words)

module _ {S : Type 0} where
  -- what went to the stream, and behind it what waits, where the stream tells that
  abbrev pub handed : (S → Option (List ℕ)) → Socket S → Option (List ℕ)
  handed contents s = append_known (contents s.stream) s.output

  -- the frame joined what waits, some of that went to the stream in order, and nothing was read
  pub record SendsFrame (contents : S → Option (List ℕ)) (old new : Socket S) (frame : List ℕ) : Type 0 where
    pub active : old.conn.state ≡ Active
    pub goes : (sent : List ℕ) × (old.output ++ frame ≡ sent ++ new.output) × Appends (contents old.stream) (contents new.stream) sent
    pub adds : Appends (handed contents old) (handed contents new) frame
    pub same_state : new.conn ≡ old.conn
    pub same_input : new.input ≡ old.input

  -- a text was taken whole: its one frame joined what waits
  abbrev pub SendsText : (S → Option (List ℕ)) → Socket S → Socket S → List ℕ → Type 0
  SendsText contents old new words =
      (frame : List ℕ) × IsTextFrame old.conn.role words frame × SendsFrame contents old new frame

-- ---- what was closed

-- the one frame that closes with a code and a reason, under some mask of the role
abbrev pub IsCloseFrame : Role → CloseCode → List ℕ → List ℕ → Type 0
IsCloseFrame role code reason frame =
    (mask : Option (List ℕ)) × IsMaskOf role mask × (frame ≡ encode_frame (whole_header (Op.Control Control.Close) mask) (close_payload (Some (code, reason))))

module _ {S : Type 0} where
  -- a close was said: its one frame joined what waits, some of that went to the stream in order, and no frame may follow it
  pub record SendsClose (contents : S → Option (List ℕ)) (old new : Socket S) (code : CloseCode) (reason : List ℕ) : Type 0 where
    pub frame : List ℕ
    pub says : IsCloseFrame old.conn.role code reason frame
    pub goes : (sent : List ℕ) × (old.output ++ frame ≡ sent ++ new.output) × Appends (contents old.stream) (contents new.stream) sent
    pub last : new.conn ≡ record old.conn { state = ClosedByUs }
    pub same_input : new.input ≡ old.input

  -- the frame of this code and reason was said; or the connection is lost, since that failed
  abbrev pub Closes : (contents : S → Option (List ℕ)) → SocketConn S → SocketConn S → CloseCode → List ℕ → Type 0
  Closes contents old new code reason =
      (SendsClose contents old.socket new.socket code reason × (new ≡ over new.socket old))
      ⊎ ((new ≡ lost (record old { faults = new.faults })) × HasFailed old new)
