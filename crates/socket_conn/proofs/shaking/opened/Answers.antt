use Rattle.std.proofs.Common.{refl}
use Rattle.socket_conn.proofs.ShakesLemmas.{begins, limited}
use Rattle.socket_conn.proofs.shaking.opened.Goals as goal

pub returns : goal.returns
returns g c =
    let s = c.socket_of-socket.ensures in
    let k = c.config.ensures in
    let limits = limited c.config.result c.socket_of-socket.result.conn.config s.limits (k.message, k.frame, k.masked) in
    (c.new.result, refl, begins c.args.upgrade c.args.stream c.args.rest.items c.socket_of-socket.result c.new.result c.new.ensures s.answer s.input s.fresh limits)
