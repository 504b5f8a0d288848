use Rattle.dispatch_keyed.proofs.Agreed.{agrees_appended}
use Rattle.dispatch_keyed.proofs.dispatching.KeyedDispatcher.on_append.Goals as goal

pub returns-clause-ok : goal.returns-clause-ok
returns-clause-ok g c s sub change agreed =
    agrees_appended c.args.self.now s sub (g.V.View.state c.args._view.now) (g.V.View.subscription c.args._view.now) agreed change
