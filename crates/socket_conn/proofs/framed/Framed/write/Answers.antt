use Rattle.tungstenite.proofs.SocketLemmas.{flushed-of-sent, writes-start, writes-sent}
use Rattle.socket_conn.proofs.framed.Framed.write.Goals as goal
use Rattle.socket_conn.proofs.framed.Framed.write.Goals.{then-len-self-ge-MOST_WAITING+in_ok-send_output, else-len-self-ge-MOST_WAITING}

pub returns-clause-wrote : goal.returns-clause-wrote
returns-clause-wrote g c =
    let contents = g.S.Write.contents in
    let old = c.args.self.now in
    let mid = c.put.new.self in
    let started = writes-start contents old mid _ c.in_ok-put.ensures.ok c.in_ok-put.ensures.stream c.in_ok-put.ensures.input in
    elim c.if-len-self-ge-MOST_WAITING.branch [
      | then-len-self-ge-MOST_WAITING+in_ok-send_output w ↦ rw w.self-is (writes-sent contents old mid w.send_output.new.self _ started (flushed-of-sent contents mid w.send_output.new.self w.in_ok-send_output.ensures.sent))
      | else-len-self-ge-MOST_WAITING w ↦ rw w.self-is started
    ]
