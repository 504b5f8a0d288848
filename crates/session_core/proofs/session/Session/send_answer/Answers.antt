use Rattle.std.proofs.Common.{refl, subst, sym}
use Rattle.session_texts.specs.Unsent.{IsAnswerText}
use Rattle.session_core.proofs.Unsent.{sends_answer}
use Rattle.session_core.proofs.session.Session.send_answer.Goals as goal

pub returns-in-Ok-send : goal.returns-in-Ok-send
returns-in-Ok-send g c =
    sends_answer c.args.self.now _ c.in-Some.answer.now c.as_str.result.now _ _ (g.C.Conn.has_room c.args.conn.now) _ (g.C.Conn.has_room c.send.new.self) c.requires.none c.requires.ready c.in-Some.ensures.lookup (subst (IsAnswerText c.in-Some.answer.now) (sym c.as_str.ensures.value) c.in-Ok.ensures) refl refl c.drop_first.ensures
    (record { party = refl; next = refl; durable = refl }) c.in-Ok-send.ensures.ok.1 c.in-Ok-send.ensures.ok.0
