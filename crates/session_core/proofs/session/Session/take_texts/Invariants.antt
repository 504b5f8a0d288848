use Rattle.session_core.specs.Steps.{TakesSome}
use Rattle.session_core.proofs.session.Session.take_texts.Given as goal

abbrev pub invariant-loop : goal.invariant-loop
invariant-loop g l = TakesSome l.fn.self l.now l.counter (g.C.Conn.exchange l.fn.conn) (g.K.Caller.calls l.fn.caller) l.self (g.C.Conn.exchange l.conn) (g.K.Caller.calls l.caller) (g.C.Conn.is_open l.conn)
