use Rattle.std.proofs.Common.{arith}
use Rattle.tungstenite.proofs.SocketLemmas.{leaves-pending-on, output-grows}
use Rattle.socket_conn.proofs.framed.Framed.put_close.Goals as goal

pub invariant_of-self : goal.invariant_of-self
invariant_of-self g c =
    let grown = output-grows _ _ _ _ _ c.close.ensures.ok c.close.ensures.err_output in
    (c.self.invariant.0, omega (arith, c.self.invariant.1, grown))

pub returns-clause-ok : goal.returns-clause-ok
returns-clause-ok g c =
    rw (← c.self.view_is) (leaves-pending-on _ _ _ c.self.inside.sent _ _ c.self.invariant.1 c.close.ensures.ok)
