use Rattle.socket_conn.proofs.ShakesLemmas.{opens}
use Rattle.socket_conn.proofs.shaking.Shaking.upgraded.Goals as goal

pub returns : goal.returns
returns g c = opens c.args.self c.args.upgrade c.into_inner.result c.behind-rest.result.items c.opened.result c.requires c.into_inner.ensures c.behind-rest.ensures c.opened.ensures
