-- What closing a connection leaves.
use Rattle.std.proofs.Common.{◌≡◌, ◌≤◌, ◌++◌, ◌∙◌, ℕ, List, Bool, true, false, cond, length, Option, Some, Ok, Err, refl, sym, ap, subst, inl, inr, append_assoc, arith}
use Rattle.std.proofs.lemmas.Bool.{and_parts}
use Rattle.std.specs.Prelude.{nat_lt}
use Rattle.socket_conn.specs.State.{says_close}
use Rattle.socket_conn.specs.Talks.{SendsClose, IsCloseFrame, IsRefused}
use Rattle.socket_conn.specs.declared.conn.SocketConn.{SocketConn}
use Rattle.tungstenite.proofs.SocketLemmas.{appends-chain}
use Rattle.tungstenite.specs.Failure.{IsIo}
use Rattle.tungstenite.specs.Socket.{Socket, Flushed, Writes}
use Rattle.tungstenite.specs.declared.error.Error.{Error}
use Rattle.tungstenite.specs.declared.error.Error.TheVariants as Why
use Rattle.websocket.proofs.RoundTripLemmas.{close_code_number-close_code_of}
use Rattle.websocket.specs.CloseCode.{close_code_number, close_code_of, is_allowed}
use Rattle.websocket.specs.Connection.{Connection, Effect, IsMaskOf, can_write, check_can_write, check_close, close_to, closing_state, write_step}
use Rattle.websocket.specs.Content.{close}
use Rattle.websocket.specs.Frame.{Checked, after_check}
use Rattle.websocket.specs.View.{Leaves}
use Rattle.websocket.specs.declared.error.Error.{Error as FrameError}
use Rattle.websocket.specs.declared.protocol.frame.coding.CloseCode.{CloseCode}
use Rattle.websocket.specs.declared.protocol.state.WebSocketState.{WebSocketState}
use Rattle.websocket.specs.declared.protocol.state.WebSocketState.TheVariants as State

-- ---- the protocol takes the close

not_lt : (n m : ℕ) → m ≤ n → nat_lt n m ≡ false
not_lt n m h = grind (arith, h)

allowed : (n : ℕ) → is_allowed (close_code_of n) ≡ true → is_allowed (close_code_of (close_code_number (close_code_of n))) ≡ true
allowed n h = ap (λ k. is_allowed (close_code_of k)) (close_code_number-close_code_of n) ∙ h

checked : (a b : Bool) (x y : FrameError) → a ≡ false → b ≡ true → after_check {A = Unit} (cond a (Err x) (Ok tt)) (cond b (Ok tt) (Err y)) ≡ Ok tt
checked a b x y h k = rw (h, k) refl

pub takes_close : (n : ℕ) (reason : List ℕ) → is_allowed (close_code_of n) ≡ true → length reason ≤ 123 → check_close (Some (close_code_of n, reason)) ≡ Ok tt
takes_close n reason may short = checked _ _ _ _ (not_lt 125 _ (omega (arith, short))) (allowed n may)

goes_on : (check : Checked FrameError) (e : Effect) (x : FrameError) → check ≡ Ok tt → ¬ (after_check check (Ok e) ≡ Err x)
goes_on (Ok t) e x h is = cc
goes_on (Err y) e x h is = cc

-- a step that is taken is no failure
no_failure : (state : WebSocketState) (c : Connection) (n : ℕ) (reason : List ℕ) (x : FrameError) → can_write state ≡ true
    → is_allowed (close_code_of n) ≡ true → length reason ≤ 123
    → ¬ (after_check (check_can_write state) (close_to c (Some (close_code_of n, reason)) (closing_state state)) ≡ Err x)
no_failure State.Active c n reason x writes may short is =
    goes_on (check_close (Some (close_code_of n, reason))) _ x (takes_close n reason may short) is
no_failure State.ClosedByUs c n reason x writes may short is = cc
no_failure State.ClosedByPeer c n reason x writes may short is = cc
no_failure State.CloseAcknowledged c n reason x writes may short is = cc
no_failure State.Failed c n reason x writes may short is = cc
no_failure State.Terminated c n reason x writes may short is = cc

-- what a step leaves that is checked first
through : (check : Checked FrameError) (e : Effect) (d : Connection) (before after : List ℕ) → Leaves (after_check check (Ok e)) d before after → Leaves (Ok e) d before after
through (Ok t) e d before after h = h
through (Err x) e d before after h = absurd h

-- its one frame joins what waits, and it is the last
close-leaves : (state : WebSocketState) (c d : Connection) (code : CloseCode) (reason before after : List ℕ) → can_write state ≡ true
    → Leaves (after_check (check_can_write state) (close_to c (Some (code, reason)) (closing_state state))) d before after
    → (d ≡ record c { state = State.ClosedByUs }) × ((frame : List ℕ) × IsCloseFrame c.role code reason frame × (after ≡ before ++ frame))
close-leaves State.Active c d code reason before after writes h =
    let said = through (check_close (Some (code, reason))) _ d before after h in
    let mask = said.1.0 in
    let of_role : IsMaskOf c.role mask = subst (λ (k : Connection). IsMaskOf k.role mask) said.0 said.1.1 in
    (said.0, (_, (mask, of_role, refl), said.1.2))
close-leaves State.ClosedByUs c d code reason before after writes h = cc
close-leaves State.ClosedByPeer c d code reason before after writes h = cc
close-leaves State.CloseAcknowledged c d code reason before after writes h = cc
close-leaves State.Failed c d code reason before after writes h = cc
close-leaves State.Terminated c d code reason before after writes h = cc

module _ {S : Type 0} where
  -- what may be said may be written, and has a code that is allowed
  pub may_write : (c : SocketConn S) (code : CloseCode) → says_close c code ≡ true → can_write c.socket.conn.state ≡ true
  may_write c code h = (and_parts _ _ (and_parts _ _ h).0).1

  pub may_say : (c : SocketConn S) (code : CloseCode) → says_close c code ≡ true → is_allowed code ≡ true
  may_say c code h = (and_parts _ _ h).1

  pub said : (contents : S → Option (List ℕ)) (old new : Socket S) (code : CloseCode) (n : ℕ) (reason : List ℕ) → code ≡ close_code_of n → can_write old.conn.state ≡ true
      → Writes contents old new (write_step old.conn (close (Some (code, reason)))) → SendsClose contents old new (close_code_of n) reason
  said contents old new code n reason is writes h =
      let sent = h.0 in
      let t = close-leaves old.conn.state old.conn new.conn code reason old.output (sent ++ new.output) writes h.1 in
      let frame = t.1.0 in
      rw (← is) record {
        frame = frame;
        says = t.1.1;
        goes = (sent, sym t.1.2, h.2);
        last = t.0;
        same_input = h.3;
      }

  -- some of what waits went on behind it
  pub handed_on : (contents : S → Option (List ℕ)) (old mid new : Socket S) (code : CloseCode) (reason : List ℕ) → SendsClose contents old mid code reason
      → Flushed contents mid new → SendsClose contents old new code reason
  handed_on contents old mid new code reason s f =
      record {
        frame = s.frame;
        says = s.says;
        goes = (s.goes.0 ++ f.0, s.goes.1 ∙ ap (λ l. s.goes.0 ++ l) f.1 ∙ sym (append_assoc s.goes.0 f.0 new.output), appends-chain _ _ _ s.goes.0 f.0 s.goes.2 f.2);
        last = f.3 ∙ s.last;
        same_input = f.4 ∙ s.same_input;
      }

  -- where the protocol takes it, only want of memory keeps it back
  pub kept_back : (old new : Socket S) (code : CloseCode) (n : ℕ) (reason : List ℕ) → code ≡ close_code_of n → can_write old.conn.state ≡ true
      → is_allowed (close_code_of n) ≡ true → length reason ≤ 123 → (e : Error) → ¬ (IsIo e)
      → IsRefused (write_step old.conn (close (Some (code, reason)))) e → (e ≡ Why.OutOfMemory → new ≡ old) → new ≡ old
  kept_back old new code n reason is writes may short (Why.Io cause) other (inl out) m = absurd (other tt)
  kept_back old new code n reason is writes may short Why.OutOfMemory other (inl out) m = m refl
  kept_back old new code n reason is writes may short e other (inl out) m = absurd out
  kept_back old new code n reason is writes may short e other (inr (x, fails, gives)) m =
      absurd (no_failure old.conn.state old.conn n reason x writes may short (subst (λ k. write_step old.conn (close (Some (k, reason))) ≡ Err x) is fails))
