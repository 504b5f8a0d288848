use Rattle.tungstenite.proofs.SocketLemmas.{leaves-pending-on}
use Rattle.socket_conn.proofs.framed.Framed.put.Goals as goal

pub returns-clause-ok : goal.returns-clause-ok
returns-clause-ok g c =
    rw (← c.self.view_is) (leaves-pending-on _ _ _ c.self.inside.sent _ _ c.self.invariant.1 c.write.ensures.ok)
