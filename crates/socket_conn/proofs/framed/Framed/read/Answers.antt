use Rattle.std.proofs.Common.{Err, ◌⊎◌, refl, inl, inr, Some, ◌∷◌, ◌++◌, sym, ap, ◌∙◌, ◌≡◌, [], drop, false, ◌∷◌, ◌++◌}
use Rattle.tungstenite.specs.Socket.{Socket, content_of}
use Rattle.websocket.specs.Content.{received_content}
use Rattle.websocket.specs.Connection.{read_step}
use Rattle.tungstenite.specs.Failure.{ReadFails, IsOutside, of_frame}
use Rattle.std.specs.Io.KnownBytes.{IsAtEnd}
use Rattle.websocket.specs.declared.error.Error.{Error as FrameError}
use Rattle.websocket.specs.Connection.{Connection, can_read}
use Rattle.tungstenite.specs.declared.error.Error.TheVariants.{OutOfMemory}
use Rattle.tungstenite.proofs.SocketLemmas.{frame-ended, failed-read, end-not-memory, io-outside, keeps-same, frame-fails, frame-not-io, outside-open, read-err, progress-start, progress-sent, progress-filled, progress-frame, read-ok, frame-facts, partial-facts, socket-eta, progress-cast, sends-cast}
use Rattle.std.specs.Prelude.{option_map}
use Rattle.socket_conn.proofs.FramedLemmas.{given_from, nothing_given}
use Rattle.socket_conn.proofs.framed.Framed.read.Goals as goal
use Rattle.socket_conn.proofs.framed.Framed.read.Goals.{in-Partial+in_default-fill, in-Complete+in_default-finish_frame}

pub loop-init : goal.loop-init
loop-init g c = ([], [], [], progress-start g.S.Read.remaining c.args.self.now)

pub finish_frame-requires-clause-consumed : goal.finish_frame-requires-clause-consumed
finish_frame-requires-clause-consumed g c =
    let keep = rw c.in-Complete.is at c.in-Ok.ensures.keeps_rest in
    rw c.in-Ok.ensures.same_len keep.0

pub returns-in-Err : goal.returns-in-Err
returns-in-Err g c =
    let remaining = g.S.Read.remaining in
    let old = c.args.self.now in
    let now = c.loop.self in
    let sent = c.send_pending.new.self in
    let run = c.loop.invariant in
    let before = progress-sent remaining g.S.Write.contents old now sent run.0 run.1 run.2 run.3 c.send_pending.ensures.sent in
    read-err remaining old sent sent _ c.in-Err.error refl (inl c.in-Err.ensures.failed) (λ _. (refl, refl, refl)) (λ q. absurd (outside-open _ c.in-Err.ensures.failed q)) (λ _. keeps-same _) (λ _. inl (refl, refl)) (inl c.in-Err.ensures.failed) (run.0, run.1, before.0, before.1)

pub returns-in-Err-fill : goal.returns-in-Err-fill
returns-in-Err-fill g c =
    let remaining = g.S.Read.remaining in
    let old = c.args.self.now in
    let now = c.loop.self in
    let sent = c.send_pending.new.self in
    let read = c.read_frame.new.self in
    let run = c.loop.invariant in
    let before = progress-sent remaining g.S.Write.contents old now sent run.0 run.1 run.2 run.3 c.send_pending.ensures.sent in
    let n = c.in-Partial.field-0 in
    let returned = rw c.in-Partial.is at c.in-Ok.ensures.returns in
    let keep = rw c.in-Partial.is at c.in-Ok.ensures.keeps_rest in
    let facts = partial-facts _ read.input n sent.conn read.conn sent.output read.output returned c.in-Ok.ensures.leaves in
    let same : sent ≡ read = socket-eta sent read (sym c.in-Ok.ensures.stream) (sym facts.0) (sym keep) (sym facts.1) in
    let after = progress-cast remaining old sent read run.0 run.1 before.0 same before.1 in
    let e = c.in-Err-fill.error in
    let why : ReadFails read.conn read.input e =
    elim c.in-Err-fill.ensures.failed [
      | inl a ↦ inl a
      | inr b ↦ inr (inr b)
    ] in
    let memory : e ≡ OutOfMemory → ((c.fill.new.self.conn ≡ read.conn) × (c.fill.new.self.input ≡ read.input)) ⊎ (can_read c.fill.new.self.conn.state ≡ false) =
    λ q. elim c.in-Err-fill.ensures.failed [
      | inl a ↦ let w = c.in-Err-fill.ensures.kept a in inl (w.0, w.1)
      | inr b ↦ absurd (end-not-memory read.conn.state (sym b ∙ q))
    ] in
    let ended : IsOutside e ⊎ ((y : FrameError) × (read_step read.conn read.input ≡ Err y) × (e ≡ of_frame y)) ⊎ IsAtEnd (remaining c.fill.new.self.stream) =
    elim c.in-Err-fill.ensures.failed [
      | inl a ↦ inl a
      | inr b ↦ elim (c.in-Err-fill.ensures.ended b) [
        | inl a ↦ inl a
        | inr z ↦ inr (inr z)
      ]
    ] in
    let idle : can_read read.conn.state ≡ false → c.fill.new.self.output ≡ [] =
    λ closed. c.in-Err-fill.ensures.output ∙ facts.1 ∙ c.in_default.ensures.idle (sym (ap (λ (x : Connection). can_read x.state) facts.0) ∙ closed) in
    read-err remaining old read c.fill.new.self _ e refl why (λ io. c.in-Err-fill.ensures.kept (io-outside e io)) (λ _. idle) c.in-Err-fill.ensures.stream_kept memory ended (run.0, run.1, before.0, after)

pub returns-in-Some : goal.returns-in-Some
returns-in-Some g c =
    let remaining = g.S.Read.remaining in
    let old = c.args.self.now in
    let now = c.loop.self in
    let sent = c.send_pending.new.self in
    let read = c.read_frame.new.self in
    let run = c.loop.invariant in
    let before = progress-sent remaining g.S.Write.contents old now sent run.0 run.1 run.2 run.3 c.send_pending.ensures.sent in
    let step = c.in-Complete.step in
    let returned = rw c.in-Complete.is at c.in-Ok.ensures.returns in
    let facts = frame-facts _ read.input step sent.conn read.conn sent.output read.output returned c.in-Ok.ensures.leaves in
    let keep = rw c.in-Complete.is at c.in-Ok.ensures.keeps_rest in
    let p = facts.0 in
    let new = c.finish_frame.new.self in
    let left = c.finish_frame.ensures.left in
    let conn_is : new.conn ≡ p.1.next = ap (λ (x : Socket g.row.S.Denot). x.conn) left ∙ facts.4 in
    let input_is : new.input ≡ drop p.0 sent.input = ap (λ (x : Socket g.row.S.Denot). x.input) left ∙ keep.1 ∙ ap (λ n. drop n sent.input) facts.2 in
    let stream_is : new.stream ≡ sent.stream = ap (λ (x : Socket g.row.S.Denot). x.stream) left ∙ c.in-Ok.ensures.stream in
    let output_is = sends-cast _ _ sent.output read.output new.output (sym (ap (λ (x : Socket g.row.S.Denot). x.output) left)) facts.5 in
    let given = given_from read.input step.message c.in-Some.came (rw c.in-Some.is at c.finish_frame.ensures.gives) in
    let m = given.0 in
    let message_is : p.1.message ≡ Some (content_of m) = sym facts.3 ∙ given.1 in
    (m, read-ok remaining old sent new run.0 run.1 before.0 p m before.1 facts.1 conn_is input_is stream_is output_is message_is, given.2)

pub loop-preserved : goal.loop-preserved
loop-preserved g c =
    let remaining = g.S.Read.remaining in
    let old = c.args.self.now in
    let now = c.loop.self in
    let sent = c.send_pending.new.self in
    let read = c.read_frame.new.self in
    let run = c.loop.invariant in
    let before = progress-sent remaining g.S.Write.contents old now sent run.0 run.1 run.2 run.3 c.send_pending.ensures.sent in
    elim c.match-status.branch [
      | in-Partial+in_default-fill w ↦
          let n = w.in-Partial.field-0 in
          let returned = rw w.in-Partial.is at c.in-Ok.ensures.returns in
          let keep = rw w.in-Partial.is at c.in-Ok.ensures.keeps_rest in
          let facts = partial-facts _ read.input n sent.conn read.conn sent.output read.output returned c.in-Ok.ensures.leaves in
          let same : sent ≡ read = socket-eta sent read (sym c.in-Ok.ensures.stream) (sym facts.0) (sym keep) (sym facts.1) in
          let f = w.in_default-fill.ensures.filled in
          let after = progress-cast remaining old sent read run.0 run.1 before.0 same before.1 in
          rw w.self-is (run.0, run.1 ++ f.0, before.0, progress-filled remaining old read w.fill.new.self run.0 run.1 before.0 after f)
      | in-Complete+in_default-finish_frame w ↦
          let step = w.in-Complete.step in
          let returned = rw w.in-Complete.is at c.in-Ok.ensures.returns in
          let facts = frame-facts _ read.input step sent.conn read.conn sent.output read.output returned c.in-Ok.ensures.leaves in
          let keep = rw w.in-Complete.is at c.in-Ok.ensures.keeps_rest in
          let p = facts.0 in
          let new = w.finish_frame.new.self in
          let left = w.finish_frame.ensures.left in
          let conn_is : new.conn ≡ p.1.next = ap (λ (x : Socket g.row.S.Denot). x.conn) left ∙ facts.4 in
          let input_is : new.input ≡ drop p.0 sent.input = ap (λ (x : Socket g.row.S.Denot). x.input) left ∙ keep.1 ∙ ap (λ n. drop n sent.input) facts.2 in
          let stream_is : new.stream ≡ sent.stream = ap (λ (x : Socket g.row.S.Denot). x.stream) left ∙ c.in-Ok.ensures.stream in
          let output_is = sends-cast _ _ sent.output read.output new.output (sym (ap (λ (x : Socket g.row.S.Denot). x.output) left)) facts.5 in
          let gives = rw w.in_default-finish_frame.is at w.finish_frame.ensures.gives in
          let message_is = sym facts.3 ∙ ap (option_map (received_content read.input)) (nothing_given read.input step.message gives) in
          rw w.self-is (run.0 ++ p ∷ [], run.1, before.0, progress-frame remaining old sent new run.0 run.1 before.0 p before.1 facts.1 conn_is input_is stream_is output_is message_is)
    ]

pub returns-in-Err-read_frame : goal.returns-in-Err-read_frame
returns-in-Err-read_frame g c =
    let remaining = g.S.Read.remaining in
    let old = c.args.self.now in
    let now = c.loop.self in
    let sent = c.send_pending.new.self in
    let read = c.read_frame.new.self in
    let run = c.loop.invariant in
    let before = progress-sent remaining g.S.Write.contents old now sent run.0 run.1 run.2 run.3 c.send_pending.ensures.sent in
    let x = c.in-Err-read_frame.error in
    let why = frame-fails sent.conn sent.input x c.in-Err-read_frame.ensures.failed in
    let out : read.output ≡ sent.output = c.in-Err-read_frame.ensures.err_output in
    read-err remaining old sent read _ c.into.result refl (rw c.into.ensures why) (λ io. absurd (frame-not-io x (rw c.into.ensures at io))) (λ q closed. out ∙ c.in_default.ensures.idle closed) (λ io. absurd (frame-not-io x (rw c.into.ensures at io))) (λ _. inr (ap (λ (k : Connection). can_read k.state) c.in-Err-read_frame.ensures.err_state ∙ failed-read sent.conn.state)) (rw c.into.ensures (frame-ended sent.conn sent.input x c.in-Err-read_frame.ensures.failed)) (run.0, run.1, before.0, before.1)
