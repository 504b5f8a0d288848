use Rattle.std.proofs.Common.{◌≡◌, true, length}
use Rattle.session_core.specs.Held.{unsent_of}
use Rattle.session_core.specs.Steps.{SendsSome}
use Rattle.session_core.proofs.session.Session.send_ready.Given as goal

abbrev pub invariant-texts : goal.invariant-texts
invariant-texts g l = record { sends : SendsSome l.fn.self (g.C.Conn.exchange l.fn.conn) l.self (g.C.Conn.exchange l.conn); opens : g.C.Conn.is_open l.conn ≡ true }

abbrev pub decreases-texts : goal.decreases-texts
decreases-texts g l = length (unsent_of l.self)
