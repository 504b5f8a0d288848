use Rattle.std.proofs.Common.{refl, subst, ◌≡◌}
use Rattle.socket_conn.specs.State.{over, emptied}
use Rattle.socket_conn.specs.Talks.{Takes, counted}
use Rattle.socket_conn.proofs.TalksLemmas.{answered, reads-once, signed}
use Rattle.socket_conn.proofs.conn.SocketConnConn.receive.Goals as goal

pub returns-clause-read : goal.returns-clause-read
returns-clause-read g c =
    let remaining = g.S.Read.remaining in
    let contents = g.S.Write.contents in
    let full = g.S.CountsWaits.full in
    let dry = g.S.CountsWaits.dry in
    let spent = g.S.CountsWaits.spent in
    let is_over = g.S.CountsFrames.over in
    let came = c.read-what.ensures.came in
    let signs = came.0 in
    let given = came.1.0 in
    let idle = c.flush.new.self.socket in
    let socket = c.read-what.new.socket in
    let what = c.read-what.result in
    let reads = reads-once remaining contents c.args.self.now.socket idle socket given
    c.flush.ensures.sent (c.flush.ensures.all c.if-not-flush.false) came.1.1 in
    let flushed : c.flush.new.self ≡ over idle (emptied c.args.self.now) = rw c.if-not-flush.false at c.flush.ensures.state in
    let mid : record (over socket c.flush.new.self) { faults = c.read-what.new.self } ≡ counted what (over socket (emptied c.args.self.now)) =
    rw (c.read-what.ensures.counted, flushed) refl in
    let signs_given = signed dry spent is_over c.args.self.now.socket socket c.get_ref-stream.result.now c.times_dry-dry.result c.times_spent-spent.result signs
    c.get_ref-stream.ensures c.times_dry-dry.ensures c.times_spent-spent.ensures came.2 in
    answered remaining contents full dry spent is_over c.args.self.now c.take.new.self socket signs given what c.take.result
    reads came.1.2 signs_given (subst (λ m. Takes what m c.take.new.self c.take.result) mid c.take.ensures.takes)
