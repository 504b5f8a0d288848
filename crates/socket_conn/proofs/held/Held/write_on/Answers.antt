use Rattle.std.proofs.Common.{ap}
use Rattle.socket_conn.proofs.HeldLemmas.{follows, none}
use Rattle.socket_conn.proofs.held.Held.write_on.Goals as goal
use Rattle.socket_conn.specs.declared.held.Held.{Held}

pub returns-in-Ok-true-clause-bytes : goal.returns-in-Ok-true-clause-bytes
returns-in-Ok-true-clause-bytes g c =
    let wrote = c.write_behind.ensures.counted in
    rw (ap (λ (d : Held _). d.at) wrote, ap (λ (d : Held _). d.first.items) wrote)
    (follows (g.S.Write.contents c.args.self.now.inner) (g.S.Write.contents c.send_first.new.self.inner) (g.S.Write.contents c.write_behind.new.self.inner) _ _ c.args.buf.now c.write_behind.result
    (none c.send_first.new.self.at c.send_first.new.self.first.items (c.in-Ok-true.ensures.gone c.in-Ok-true.field-0-test)) c.in-Ok-true.ensures.bytes c.write_behind.ensures.bytes)
