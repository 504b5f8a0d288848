use Rattle.std.proofs.Common.{◌≡◌, ◌-◌, length, take, drop}
use Rattle.tungstenite.proofs.SocketLemmas.{leaves-drop-on, take-left}
use Rattle.socket_conn.proofs.framed.Framed.read_frame.Goals as goal

pub returns-clause-leaves : goal.returns-clause-leaves
returns-clause-leaves g c =
    let s = c.self.inside in
    let input : take (length c.deref_mut.result.now - s.start) (drop s.start c.deref_mut.result.now) ≡ drop s.start s.input.items = rw c.deref_mut.ensures.value (take-left s.start s.input.items) in
    rw (← c.self.view_is) (leaves-drop-on _ _ _ _ s.sent _ _ c.self.invariant.1 (rw input at c.read.ensures.leaves))
