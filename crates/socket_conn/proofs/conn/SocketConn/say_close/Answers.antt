use Rattle.socket_conn.proofs.CloseLemmas.{handed_on}
use Rattle.socket_conn.proofs.conn.SocketConn.say_close.Goals as goal
use Rattle.websocket.specs.CloseCode.{close_code_of}

pub returns-in-Ok-clause-ok : goal.returns-in-Ok-clause-ok
returns-in-Ok-clause-ok g c =
    handed_on g.S.Write.contents c.args.self.now.socket c.put_close.new.self.socket c.hand_on.new.self.socket (close_code_of c.args.code) c.args.reason.now c.in-Ok.ensures.ok c.hand_on.ensures.sent
