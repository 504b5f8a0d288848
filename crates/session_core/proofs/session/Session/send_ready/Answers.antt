use Rattle.std.proofs.Common.{sym, ◌∙◌}
use Rattle.session_core.proofs.Unsent.{sent_end, sent_none, sent_one, smaller}
use Rattle.session_core.proofs.session.Session.send_ready.Goals as goal

pub texts-init : goal.texts-init
texts-init g c = record { sends = sent_none c.args.self.now _; opens = c.requires }

pub returns-in-Err : goal.returns-in-Err
returns-in-Err g c = sent_end _ _ _ _ _ _ _ _ _ _ c.texts.invariant.sends (sym c.can_send.ensures ∙ c.texts-test.true) (sym c.has_room.ensures ∙ c.if-has_room.true) c.in-Err.ensures

pub texts-preserved : goal.texts-preserved
texts-preserved g c = record { sends = sent_one _ _ _ _ _ _ (g.C.Conn.has_room c.texts.conn) _ (g.C.Conn.has_room c.send_next.new.conn) c.texts.invariant.sends c.in-Ok.ensures; opens = c.in-Ok.ensures.5 }

pub texts-smaller : goal.texts-smaller
texts-smaller g c = smaller c.texts.self c.send_next.new.self _ c.in-Ok.ensures.1
