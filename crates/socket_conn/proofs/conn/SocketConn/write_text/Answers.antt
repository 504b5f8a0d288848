use Rattle.std.proofs.lemmas.Result.{on_ok_weaker}
use Rattle.socket_conn.proofs.TalksLemmas.{text-sent}
use Rattle.socket_conn.proofs.conn.SocketConn.write_text.Goals as goal

pub returns-clause-wrote : goal.returns-clause-wrote
returns-clause-wrote g c =
    on_ok_weaker c.write.result (text-sent g.S.Write.contents c.args.self.now.socket c.write.new.self.socket c.args.text.now) c.write.ensures.wrote
