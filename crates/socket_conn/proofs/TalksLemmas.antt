-- What a call of the socket comes to.
use Rattle.std.proofs.Common.{◌≡◌, ◌++◌, ◌∙◌, [], ℕ, List, Bool, true, false, Option, None, Some, Result, Ok, Err, MatchBool, refl, sym, ap, subst, inl, inr, append_assoc}
use Rattle.std.specs.Io.KnownBytes.{Appends, append_known}
use Rattle.socket_conn.specs.Talks.{Brings, SendsText, IsTextFrame, IsOutcome, ReadsAs, ComesTo, ErrorComesTo, GivenComesTo, MessageComesTo, GivesSigns, WaitedSince, Takes, counted, ReadsError, ReadsMessage, ReadsOnce, Receives, WouldWait, SaysClosed, breach_of}
use Rattle.socket_conn.specs.State.{over, emptied, ended, failed, noting}
use Rattle.socket_conn.specs.declared.outcomes.Came.{Came}
use Rattle.socket_conn.specs.declared.outcomes.Signs.{Signs}
use Rattle.socket_conn.specs.declared.conn.SocketConn.{SocketConn}
use Rattle.session_links.specs.declared.conn.ConnFault.{ConnFault}
use Rattle.session_links.specs.declared.conn.Incoming.{Incoming}
use Rattle.tungstenite.specs.Failure.{IsIo}
use Rattle.tungstenite.specs.declared.error.Error.{Error}
use Rattle.tungstenite.specs.declared.error.Error.TheVariants as Why
use Rattle.tungstenite.specs.declared.message.Message.{Message}
use Rattle.tungstenite.specs.Socket.{Socket, Runs, Replies, Writes, Flushed, Reads}
use Rattle.websocket.specs.View.{Leaves}
use Rattle.websocket.specs.declared.protocol.frame.coding.CloseCode.{CloseCode}
use Rattle.websocket.specs.declared.protocol.frame.coding.CloseCode.TheVariants.{Size}
use Rattle.websocket.specs.Content.{text}
use Rattle.websocket.specs.Connection.{Connection, IsMaskOf, write_step, write_active, check_can_write}
use Rattle.websocket.specs.Frame.{after_check}
use Rattle.websocket.specs.declared.protocol.state.WebSocketState.{WebSocketState}
use Rattle.websocket.specs.declared.protocol.state.WebSocketState.TheVariants as State

-- ---- of a text that was sent

-- what went and what waits grow by what joined the end of what waits
pub handed-adds : (a b : Option (List ℕ)) (before after sent frame : List ℕ) → Appends a b sent → before ++ frame ≡ sent ++ after
    → Appends (append_known a before) (append_known b after) frame
handed-adds None b before after sent frame p e = tt
handed-adds (Some x) None before after sent frame p e = absurd p
handed-adds (Some x) (Some y) before after sent frame p e =
    ap (λ l. l ++ after) p ∙ append_assoc x sent after ∙ ap (λ l. x ++ l) (sym e) ∙ sym (append_assoc x before frame)

-- a text is taken in the active state alone, as its one frame
pub text-leaves : (state : WebSocketState) (c d : Connection) (words before after : List ℕ)
    → Leaves (after_check (check_can_write state) (write_active c (text words))) d before after
    → (state ≡ State.Active) × (d ≡ c) × ((frame : List ℕ) × IsTextFrame c.role words frame × (after ≡ before ++ frame))
text-leaves State.Active c d words before after h =
    let mask = h.1.0 in
    let of_role : IsMaskOf c.role mask = subst (λ (k : Connection). IsMaskOf k.role mask) h.0 h.1.1 in
    (refl, h.0, (_, (mask, of_role, refl), h.1.2))
text-leaves State.ClosedByUs c d words before after h = absurd h
text-leaves State.ClosedByPeer c d words before after h = absurd h
text-leaves State.CloseAcknowledged c d words before after h = absurd h
text-leaves State.Failed c d words before after h = absurd h
text-leaves State.Terminated c d words before after h = absurd h

module _ {S : Type 0} where
  pub text-sent : (contents : S → Option (List ℕ)) (old new : Socket S) (words : List ℕ)
      → Writes contents old new (write_step old.conn (text words)) → SendsText contents old new words
  text-sent contents old new words h =
      let sent = h.0 in
      let t = text-leaves old.conn.state old.conn new.conn words old.output (sent ++ new.output) h.1 in
      let frame = t.2.0 in
      let joins : old.output ++ frame ≡ sent ++ new.output = sym t.2.2 in (
        frame,
        t.2.1,
        record {
          active = t.0;
          goes = (sent, joins, h.2);
          adds = handed-adds _ _ old.output new.output sent frame h.2 joins;
          same_state = t.1;
          same_input = h.3;
        },
      )

-- only the stream has to wait
pub wait-is-io : (error : Error) → WouldWait error → IsIo error
wait-is-io (Why.Io cause) h = tt
wait-is-io Why.ConnectionClosed h = absurd h
wait-is-io Why.AlreadyClosed h = absurd h
wait-is-io (Why.Capacity cause) h = absurd h
wait-is-io (Why.Protocol cause) h = absurd h
wait-is-io Why.WriteBufferFull h = absurd h
wait-is-io Why.Utf8 h = absurd h
wait-is-io Why.AttackAttempt h = absurd h
wait-is-io (Why.Handshake cause) h = absurd h
wait-is-io Why.HandshakeIncomplete h = absurd h
wait-is-io Why.JunkAfterRequest h = absurd h
wait-is-io Why.CustomResponseSuccessful h = absurd h
wait-is-io Why.Url h = absurd h
wait-is-io (Why.Http response) h = absurd h
wait-is-io (Why.Refused response) h = absurd h
wait-is-io Why.OutOfMemory h = absurd h

-- ---- of a read

-- a breach is none of the others
breach-waits : (error : Error) (code : CloseCode) → breach_of error ≡ Some code → ¬ (WouldWait error)
breach-waits (Why.Protocol cause) code h = λ w. w
breach-waits Why.Utf8 code h = λ w. w
breach-waits (Why.Capacity cause) code h = λ w. w
breach-waits error code h = cc

breach-is-no-close : (error : Error) (code : CloseCode) → breach_of error ≡ Some code → ¬ (SaysClosed error)
breach-is-no-close (Why.Protocol cause) code h = λ w. w
breach-is-no-close Why.Utf8 code h = λ w. w
breach-is-no-close (Why.Capacity cause) code h = λ w. w
breach-is-no-close error code h = cc

-- where the one side does not hold, the other does in its own way
other_side : (side : Bool) (A B C : Type 0) → (B → C) → MatchBool side A B → MatchBool side A C
other_side true A B C f is = is
other_side false A B C f is = f is

module _ {S : Type 0} where
  -- what a read comes to, by the message that it gave
  pub brings : (remaining : S → Option (List ℕ)) (signs : Signs) (old new : Socket S) (read : Result Came Error) (came : Came)
      → ReadsAs remaining old new read → IsOutcome signs read came → Brings remaining signs old new came
  brings remaining signs old new (Ok got) came (message, reads, comes) is =
      (Ok message, reads, other_side signs.is_over _ _ _ (λ same. subst (MessageComesTo message) (sym same) comes) is)
  brings remaining signs old new (Err error) came reads is = (Err error, reads, is)

  -- what is noted of an error
  noted : (error : Error) (code : Option CloseCode) → breach_of error ≡ code → (c : SocketConn S) → noting code c ≡ noting (breach_of error) c
  noted error code is c = ap (λ k. noting k c) (sym is)

  waited : (times : S → ℕ) (count : ℕ) (socket : Socket S) (has : Bool) → has ≡ true → WaitedSince times count socket has → ¬ (times socket.stream ≡ count)
  waited times count socket true is h = h
  waited times count socket false is h = cc

  not_waited : (times : S → ℕ) (count : ℕ) (socket : Socket S) (has : Bool) → has ≡ false → WaitedSince times count socket has → times socket.stream ≡ count
  not_waited times count socket true is h = cc
  not_waited times count socket false is h = h

  -- a read after the flush is a read from the state and the bytes before it
  pub reads-once : (remaining contents : S → Option (List ℕ)) (old idle new : Socket S) (given : Result Message Error)
      → Flushed contents old idle → idle.output ≡ [] → Reads remaining idle new given → ReadsOnce remaining contents old new given
  reads-once remaining contents old idle new (Ok message) flushed none reads =
      let run = reads.0 in
      let got = reads.1 in
      let sent = reads.4 in
      let gave = reads.6 in
      let frames : Runs old.conn (old.input ++ got) run new.conn new.input =
      rw (gave.1, gave.2, ← flushed.3, ← flushed.4) reads.5 in
      let replies : Replies run [] (sent ++ new.output) = rw none at gave.3 in
      (idle, run, got, sent, flushed, none, gave.4 none, frames, gave.0, replies)
  reads-once remaining contents old idle new (Err error) flushed none reads = (idle, flushed, none, reads)

  -- what the stream tells of a read, where it had counted before the call
  pub signed : (dry spent : S → ℕ) (is_over : S → Bool) (old socket : Socket S) (stream : S) (dried spents : ℕ) (signs : Signs)
      → stream ≡ old.stream → dried ≡ dry stream → spents ≡ spent stream
      → GivesSigns dry spent is_over dried spents socket signs → GivesSigns dry spent is_over (dry old.stream) (spent old.stream) socket signs
  signed dry spent is_over old socket stream dried spents signs is is_dried is_spents gives =
      subst (λ n. GivesSigns dry spent is_over n (spent old.stream) socket signs) (is_dried ∙ ap dry is)
      (subst (λ n. GivesSigns dry spent is_over dried n socket signs) (is_spents ∙ ap spent is) gives)

  -- what the connection answers to a read by which a message had more frames than it may
  too_many : (remaining contents : S → Option (List ℕ)) (full dry spent : S → ℕ) (is_over : S → Bool) (old new : SocketConn S) (socket : Socket S) (given : Result Message Error) (answer : Result Incoming ConnFault)
      → ReadsOnce remaining contents old.socket socket given → is_over socket.stream ≡ true → Takes (Came.Breaks Size) (counted (Came.Breaks Size) (over socket (emptied old))) new answer
      → Receives remaining contents full dry spent is_over old new answer
  too_many remaining contents full dry spent is_over old new socket given (Ok incoming) reads long takes = cc
  too_many remaining contents full dry spent is_over old new socket given (Err fault) reads long takes = rw takes.1 (inr (inr (long, (given, reads), refl)))

  -- the same of a message that was read, where none had more
  message_answered : (remaining contents : S → Option (List ℕ)) (full dry spent : S → ℕ) (is_over : S → Bool) (old new : SocketConn S) (socket : Socket S) (message : Message) (came : Came) (answer : Result Incoming ConnFault)
      → ReadsMessage remaining contents old.socket socket message → MessageComesTo message came → is_over socket.stream ≡ false
      → Takes came (counted came (over socket (emptied old))) new answer → Receives remaining contents full dry spent is_over old new answer
  message_answered remaining contents full dry spent is_over old new socket message (Came.Text bytes) answer reads comes short takes =
      rw (takes.0, takes.1) (short, (message, reads, comes, refl))
  message_answered remaining contents full dry spent is_over old new socket message Came.Ping answer reads comes short takes =
      rw (takes.0, takes.1) (inr (short, inl (message, reads, inl (comes, refl))))
  message_answered remaining contents full dry spent is_over old new socket message Came.Pong answer reads comes short takes =
      rw (takes.0, takes.1) (inr (short, inl (message, reads, inr (comes, refl))))
  message_answered remaining contents full dry spent is_over old new socket message Came.Nothing answer reads comes short takes = absurd comes
  message_answered remaining contents full dry spent is_over old new socket message Came.Spent answer reads comes short takes = absurd comes
  message_answered remaining contents full dry spent is_over old new socket message Came.Closes answer reads comes short takes =
      rw (takes.0, takes.1) (short, refl, inl (message, reads, comes))
  message_answered remaining contents full dry spent is_over old new socket message (Came.Breaks code) answer reads comes short takes = absurd comes
  message_answered remaining contents full dry spent is_over old new socket message Came.Fails answer reads comes short takes = absurd comes
  message_answered remaining contents full dry spent is_over old new socket message Came.Lost (Ok incoming) reads comes short takes = cc
  message_answered remaining contents full dry spent is_over old new socket message Came.Lost (Err fault) reads comes short takes =
      rw takes.1 (inr (inl (short, inl (message, reads, comes, refl))))

  -- the same of an error
  error_answered : (remaining contents : S → Option (List ℕ)) (full dry spent : S → ℕ) (is_over : S → Bool) (old new : SocketConn S) (socket : Socket S) (signs : Signs) (error : Error) (came : Came) (answer : Result Incoming ConnFault)
      → ReadsError remaining contents old.socket socket error → ErrorComesTo signs error came → GivesSigns dry spent is_over (dry old.socket.stream) (spent old.socket.stream) socket signs
      → is_over socket.stream ≡ false → Takes came (counted came (over socket (emptied old))) new answer → Receives remaining contents full dry spent is_over old new answer
  error_answered remaining contents full dry spent is_over old new socket signs error (Came.Text bytes) answer reads comes given short takes = absurd comes
  error_answered remaining contents full dry spent is_over old new socket signs error Came.Ping answer reads comes given short takes = absurd comes
  error_answered remaining contents full dry spent is_over old new socket signs error Came.Pong answer reads comes given short takes = absurd comes
  error_answered remaining contents full dry spent is_over old new socket signs error Came.Lost answer reads comes given short takes = absurd comes
  error_answered remaining contents full dry spent is_over old new socket signs error Came.Nothing answer reads comes given short takes =
      let before = not_waited spent (spent old.socket.stream) socket signs.is_spent comes.1.0 given.1 in
      let dried = waited dry (dry old.socket.stream) socket signs.is_dry comes.1.1 given.0 in
      rw (takes.0, takes.1) (inr (short, inr (error, reads, comes.0, inr (before, dried, refl))))
  error_answered remaining contents full dry spent is_over old new socket signs error Came.Spent answer reads comes given short takes =
      let used_up = waited spent (spent old.socket.stream) socket signs.is_spent comes.1 given.1 in
      rw (takes.0, takes.1) (inr (short, inr (error, reads, comes.0, inl (used_up, refl))))
  error_answered remaining contents full dry spent is_over old new socket signs error Came.Closes answer reads comes given short takes =
      rw (takes.0, takes.1) (short, refl, inr (error, reads, comes))
  error_answered remaining contents full dry spent is_over old new socket signs error (Came.Breaks code) (Ok incoming) reads comes given short takes = cc
  error_answered remaining contents full dry spent is_over old new socket signs error (Came.Breaks code) (Err fault) reads comes given short takes =
      rw takes.1 (inr (inl (short, inr (error, reads, (λ waits. absurd (breach-waits error code comes waits)), breach-is-no-close error code comes, noted error (Some code) comes (ended (over socket (emptied (failed old))))))))
  error_answered remaining contents full dry spent is_over old new socket signs error Came.Fails (Ok incoming) reads comes given short takes = cc
  error_answered remaining contents full dry spent is_over old new socket signs error Came.Fails (Err fault) reads comes given short takes =
      let before = λ (waits : WouldWait error). not_waited spent (spent old.socket.stream) socket signs.is_spent (comes.0 waits).0 given.1 in
      let asked = λ (waits : WouldWait error). not_waited dry (dry old.socket.stream) socket signs.is_dry (comes.0 waits).1 given.0 in
      rw takes.1 (inr (inl (short, inr (error, reads, (λ waits. (before waits, asked waits)), comes.1, noted error None comes.2 (ended (over socket (emptied (failed old))))))))

  by_frames : (remaining contents : S → Option (List ℕ)) (full dry spent : S → ℕ) (is_over : S → Bool) (old new : SocketConn S) (socket : Socket S) (signs : Signs) (now : Bool) (given : Result Message Error) (came : Came) (answer : Result Incoming ConnFault)
      → MatchBool now (came ≡ Came.Breaks Size) (GivenComesTo signs given came) → now ≡ is_over socket.stream
      → ReadsOnce remaining contents old.socket socket given → GivesSigns dry spent is_over (dry old.socket.stream) (spent old.socket.stream) socket signs
      → Takes came (counted came (over socket (emptied old))) new answer → Receives remaining contents full dry spent is_over old new answer
  by_frames remaining contents full dry spent is_over old new socket signs true given came answer comes said reads signed takes =
      too_many remaining contents full dry spent is_over old new socket given answer reads (sym said) (subst (λ c. Takes c (counted c (over socket (emptied old))) new answer) comes takes)
  by_frames remaining contents full dry spent is_over old new socket signs false (Ok message) came answer comes said reads signed takes =
      message_answered remaining contents full dry spent is_over old new socket message came answer reads comes (sym said) takes
  by_frames remaining contents full dry spent is_over old new socket signs false (Err error) came answer comes said reads signed takes =
      error_answered remaining contents full dry spent is_over old new socket signs error came answer reads comes signed (sym said) takes

  -- what the connection answers to a read, by what the read came to
  pub answered : (remaining contents : S → Option (List ℕ)) (full dry spent : S → ℕ) (is_over : S → Bool) (old new : SocketConn S) (socket : Socket S) (signs : Signs) (given : Result Message Error) (came : Came) (answer : Result Incoming ConnFault)
      → ReadsOnce remaining contents old.socket socket given → ComesTo signs given came → GivesSigns dry spent is_over (dry old.socket.stream) (spent old.socket.stream) socket signs
      → Takes came (counted came (over socket (emptied old))) new answer → Receives remaining contents full dry spent is_over old new answer
  answered remaining contents full dry spent is_over old new socket signs given came answer reads comes signed takes =
      by_frames remaining contents full dry spent is_over old new socket signs signs.is_over given came answer comes signed.2 reads signed takes
