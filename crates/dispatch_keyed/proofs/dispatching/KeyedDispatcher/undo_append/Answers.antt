use Rattle.dispatch_keyed.proofs.Agreed.{agrees_taken_back}
use Rattle.dispatch_keyed.proofs.dispatching.KeyedDispatcher.undo_append.Goals as goal

pub returns : goal.returns
returns g c agreed t new change =
    agrees_taken_back c.args.self.now (g.V.View.state c.args._view.now) (g.V.View.subscription c.args._view.now) t new agreed change
