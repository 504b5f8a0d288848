use Rattle.std.proofs.Common.{sym, ◌<◌, ◌∙◌, take, arith, refl, rules, ◌≡◌, ◌≤◌, length, drop, ◌<◌, ◌++◌}
use Rattle.std.proofs.lemmas.List.{drop-append-le}
use Rattle.tungstenite.proofs.SocketLemmas.{take-take-append}
use Rattle.socket_conn.proofs.framed.Framed.fill.Goals as goal
use Rattle.socket_conn.proofs.framed.Framed.fill.Goals.{then-len-ne-READ_SIZE+in_ok-resize, else-len-ne-READ_SIZE}

pub returns-in_ok-extend_from_slice-in-Ok : goal.returns-in_ok-extend_from_slice-in-Ok
returns-in_ok-extend_from_slice-in-Ok g c =
    let i = c.self.inside in
    let s = c.if-len-ne-READ_SIZE.self-inside in
    let same : (s.start ≡ i.start) × (s.input.items ≡ i.input.items) × (s.sent ≡ i.sent) × (s.output.items ≡ i.output.items) × (s.stream ≡ i.stream) × (s.context ≡ i.context) =
    elim c.if-len-ne-READ_SIZE.branch [
      | then-len-ne-READ_SIZE+in_ok-resize w ↦ rw w.self-inside-is (refl, c.in_ok-reserve.ensures.items, refl, refl, refl, refl)
      | else-len-ne-READ_SIZE w ↦ rw w.self-inside-is (refl, c.in_ok-reserve.ensures.items, refl, refl, refl, refl)
    ] in
    let vw = c.self.view_is ∙ c.compact.ensures in
    let n = c.in-Ok.n in
    let buf = c.read.new.buf in
    let b = c.in-Ok.ensures.bytes in
    let bnd : n ≤ length buf = c.in-Ok.ensures.bound.0 in
    let ln : length buf ≡ length c.deref_mut.result.now = search rules in
    let lv = c.deref_mut.ensures.len in
    let l2 : n ≤ s.chunk.len = omega (arith, ln, lv) in
    let tk : take n c.deref.result.now ≡ take n buf = rw c.deref.ensures.value (take-take-append n s.chunk.len buf _ l2 bnd) in
    let st : s.start ≤ length s.input.items = rw (same.0, same.1) c.self.invariant.0 in
    let ee : drop s.start c.extend_from_slice.new.self.items ≡ c.args.self.now.input ++ take n buf =
    rw (c.in_ok-extend_from_slice-in-Ok.ensures.items, tk, drop-append-le s.start s.input.items _ st, same.0, same.1, ← vw) refl in
    let pos : 0 < length (take n buf) = rw (sym c.in-Ok.ensures.bound.1) (omega (arith, c.in-Ok.n-test)) in
    record { filled = (take n buf, pos, ee, rw (← vw, ← same.4) b.0, rw (same.2, same.3, ← vw) refl, rw (same.5, ← vw) refl); failed = tt; kept = tt; output = rw (same.2, same.3, ← vw) refl; stream_kept = tt; ended = tt }
