use Rattle.std.proofs.Common.{refl}
use Rattle.dispatch_keyed.proofs.Agreed.{agrees_changed, agrees_unread}
use Rattle.dispatch_keyed.proofs.keyed.Keyed.change.Goals as goal

pub returns-then-index-self : goal.returns-then-index-self
returns-then-index-self g c s sub news agreed =
    agrees_unread c.args.self.now c.args.index c.args.waits c.args.holder s sub (g.V.View.state c.args.view.now) (g.V.View.subscription c.args.view.now) news agreed c.if-index-self.true

pub returns : goal.returns
returns g c s sub news agreed =
    agrees_changed c.args.self.now _ c.args.index c.hash_at-hash.result c.args.waits c.args.holder s sub (g.V.View.state c.args.view.now) (g.V.View.subscription c.args.view.now) news agreed c.hash_at-hash.ensures
    refl refl refl c.stand.ensures.others c.stand.ensures.here c.renew.ensures.others c.renew.ensures.first
