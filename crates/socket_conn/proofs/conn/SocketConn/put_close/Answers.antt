use Rattle.socket_conn.proofs.CloseLemmas.{kept_back, may_say, may_write, said}
use Rattle.socket_conn.proofs.conn.SocketConn.put_close.Goals as goal
use Rattle.websocket.specs.CloseCode.{close_code_of}

pub returns-in-Ok-clause-ok : goal.returns-in-Ok-clause-ok
returns-in-Ok-clause-ok g c =
    let old = c.args.self.now in
    let code = close_code_of c.args.code in
    said g.S.Write.contents old.socket c.put.new.socket c.from-code.result c.args.code c.args.reason.now c.from-code.ensures (may_write old code c.requires.says) c.in-Ok.ensures.put

pub returns-in-Err-clause-err : goal.returns-in-Err-clause-err
returns-in-Err-clause-err g c =
    let old = c.args.self.now in
    let code = close_code_of c.args.code in
    let failed = c.in-Err.ensures.failed in
    kept_back old.socket c.put.new.socket c.from-code.result c.args.code c.args.reason.now c.from-code.ensures (may_write old code c.requires.says) (may_say old code c.requires.says) c.requires.short c.in-Err.error failed.1
    failed.0 c.in-Err.ensures.memory
