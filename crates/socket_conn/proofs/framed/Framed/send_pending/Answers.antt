use Rattle.std.proofs.Common.{rules, ◌≡◌, ◌<◌, length, ap, ◌∙◌, arith}
use Rattle.tungstenite.specs.Socket.{Socket}
use Rattle.tungstenite.proofs.SocketLemmas.{sent-of-flushed, length-drop-pos}
use Rattle.socket_conn.proofs.framed.Framed.send_pending.Goals as goal

pub returns-then-can_read-clause-sent : goal.returns-then-can_read-clause-sent
returns-then-can_read-clause-sent g c =
    let s = c.self.inside in
    let vi = c.self.view_is in
    let vl : c.len.result ≡ length s.output.items = c.len.ensures ∙ search rules in
    let lt : s.sent < length s.output.items = omega (arith, c.if-self-len.false) in
    let pos = length-drop-pos s.sent s.output.items lt in
    let ve = ap (λ (x : Socket g.row.S.Denot). x.output) vi in
    let l : 0 < length c.args.self.now.output = rw (← ve) pos in
    sent-of-flushed g.S.Write.contents c.args.self.now c.flush.new.self c.flush.ensures.sent l

pub returns-in-Err-Io-clause-sent : goal.returns-in-Err-Io-clause-sent
returns-in-Err-Io-clause-sent g c =
    let s = c.self.inside in
    let vi = c.self.view_is in
    let vl : c.len.result ≡ length s.output.items = c.len.ensures ∙ search rules in
    let lt : s.sent < length s.output.items = omega (arith, c.if-self-len.false) in
    let pos = length-drop-pos s.sent s.output.items lt in
    let ve = ap (λ (x : Socket g.row.S.Denot). x.output) vi in
    let l : 0 < length c.args.self.now.output = rw (← ve) pos in
    sent-of-flushed g.S.Write.contents c.args.self.now c.flush.new.self c.flush.ensures.sent l

pub returns-clause-sent : goal.returns-clause-sent
returns-clause-sent g c =
    let s = c.self.inside in
    let vi = c.self.view_is in
    let vl : c.len.result ≡ length s.output.items = c.len.ensures ∙ search rules in
    let lt : s.sent < length s.output.items = omega (arith, c.if-self-len.false) in
    let pos = length-drop-pos s.sent s.output.items lt in
    let ve = ap (λ (x : Socket g.row.S.Denot). x.output) vi in
    let l : 0 < length c.args.self.now.output = rw (← ve) pos in
    sent-of-flushed g.S.Write.contents c.args.self.now c.flush.new.self c.flush.ensures.sent l
