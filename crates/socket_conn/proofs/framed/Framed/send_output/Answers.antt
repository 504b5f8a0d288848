use Rattle.std.proofs.Common.{rules, ◌≡◌, ◌≤◌, ◌<◌, ◌-◌, ◌+◌, [], length, drop, take, sym, ◌∙◌, refl, arith, length-drop}
use Rattle.tungstenite.specs.Socket.{Socket}
use Rattle.tungstenite.proofs.SocketLemmas.{sent-same, sent-write, sent-done, appends-keeps, take-left, drop-past, drop-drop, length-drop-pos}
use Rattle.socket_conn.proofs.framed.Framed.send_output.Goals as goal
use Rattle.socket_conn.proofs.framed.Framed.send_output.Goals.{in-Ok, in-Err+else-ne}

pub loop-init : goal.loop-init
loop-init g c = (sent-same g.S.Write.contents c.args.self.now _ (sym c.self.view_is), c.self.invariant.0, c.self.invariant.1)

pub invariant_of-self : goal.invariant_of-self
invariant_of-self g c = (c.loop.invariant.1, c.loop.invariant.2)

pub invariant_of-self-then-self-len : goal.invariant_of-self-then-self-len
invariant_of-self-then-self-len g c = (c.loop.invariant.1, omega arith)

pub returns-then-self-len-clause-sent : goal.returns-then-self-len-clause-sent
returns-then-self-len-clause-sent g c =
    let contents = g.S.Write.contents in
    let s = c.loop.self-inside in
    let now : Socket g.row.S.Denot = record { stream = s.stream; conn = s.context; input = drop s.start s.input.items; output = drop s.sent s.output.items } in
    let old = c.args.self.now in
    let held = c.loop.invariant in
    let vl : c.len.result ≡ length s.output.items = c.len.ensures ∙ search rules in
    let e : drop s.sent s.output.items ≡ [] = drop-past s.sent s.output.items (omega (arith, c.if-self-len.true)) in
    sent-done contents old now _ held.0 e c.clear.ensures.items refl refl refl

pub invariant_of-self-in-Ok-eq0 : goal.invariant_of-self-in-Ok-eq0
invariant_of-self-in-Ok-eq0 g c = (c.loop.invariant.1, c.loop.invariant.2)

pub returns-in-Ok-eq0-clause-sent : goal.returns-in-Ok-eq0-clause-sent
returns-in-Ok-eq0-clause-sent g c =
    let contents = g.S.Write.contents in
    let s = c.loop.self-inside in
    let now : Socket g.row.S.Denot = record { stream = s.stream; conn = s.context; input = drop s.start s.input.items; output = drop s.sent s.output.items } in
    let old = c.args.self.now in
    let held = c.loop.invariant in
    let waits : take (length c.deref.result.now - s.sent) (drop s.sent c.deref.result.now) ≡ drop s.sent s.output.items = rw c.deref.ensures.value (take-left s.sent s.output.items) in
    let vl : c.len.result ≡ length s.output.items = c.len.ensures ∙ search rules in
    let short : s.sent < length s.output.items = omega (arith, c.if-self-len.false) in
    let some : 0 < length (drop s.sent s.output.items) = length-drop-pos s.sent s.output.items short in
    let a = rw (waits, c.in-Ok-eq0.field-0-test) at c.in-Ok-eq0.ensures.bytes in
    sent-write contents old now _ 0 held.0 some a refl refl refl

pub invariant_of-self-then-ne : goal.invariant_of-self-then-ne
invariant_of-self-then-ne g c = (c.loop.invariant.1, c.loop.invariant.2)

pub returns-then-ne-clause-sent : goal.returns-then-ne-clause-sent
returns-then-ne-clause-sent g c =
    let contents = g.S.Write.contents in
    let s = c.loop.self-inside in
    let now : Socket g.row.S.Denot = record { stream = s.stream; conn = s.context; input = drop s.start s.input.items; output = drop s.sent s.output.items } in
    let old = c.args.self.now in
    let held = c.loop.invariant in
    let waits : take (length c.deref.result.now - s.sent) (drop s.sent c.deref.result.now) ≡ drop s.sent s.output.items = rw c.deref.ensures.value (take-left s.sent s.output.items) in
    let vl : c.len.result ≡ length s.output.items = c.len.ensures ∙ search rules in
    let short : s.sent < length s.output.items = omega (arith, c.if-self-len.false) in
    let some : 0 < length (drop s.sent s.output.items) = length-drop-pos s.sent s.output.items short in
    sent-write contents old now _ 0 held.0 some (appends-keeps _ _ c.in-Err.ensures.bytes) refl refl refl

pub loop-preserved : goal.loop-preserved
loop-preserved g c =
    let contents = g.S.Write.contents in
    let s = c.loop.self-inside in
    let now : Socket g.row.S.Denot = record { stream = s.stream; conn = s.context; input = drop s.start s.input.items; output = drop s.sent s.output.items } in
    let old = c.args.self.now in
    let held = c.loop.invariant in
    let waits : take (length c.deref.result.now - s.sent) (drop s.sent c.deref.result.now) ≡ drop s.sent s.output.items = rw c.deref.ensures.value (take-left s.sent s.output.items) in
    let vl : c.len.result ≡ length s.output.items = c.len.ensures ∙ search rules in
    let short : s.sent < length s.output.items = omega (arith, c.if-self-len.false) in
    let some : 0 < length (drop s.sent s.output.items) = length-drop-pos s.sent s.output.items short in
    elim c.match-write.branch [
      | in-Ok w ↦
          let n = w.in-Ok.n in
          let a = rw waits at w.in-Ok.ensures.bytes in
          let b = rw waits at w.in-Ok.ensures.bound in
          let ld = length-drop s.sent s.output.items in
          let l2 : s.sent + n ≤ length s.output.items = omega arith in
          rw w.self-inside-is (sent-write contents old now _ n held.0 some a (sym (drop-drop s.sent n s.output.items)) refl refl, held.1, l2)
      | in-Err+else-ne w ↦
          rw w.self-inside-is (sent-write contents old now _ 0 held.0 some (appends-keeps _ _ w.in-Err.ensures.bytes) refl refl refl, held.1, held.2)
    ]

pub returns-clause-sent : goal.returns-clause-sent
returns-clause-sent g c = c.loop.invariant.0
