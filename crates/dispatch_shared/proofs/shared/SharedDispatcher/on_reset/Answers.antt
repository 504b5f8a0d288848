use Rattle.std.proofs.Common.{◌∙◌, sym}
use Rattle.dispatch_core.proofs.Telling.{tells-new}
use Rattle.dispatch_shared.proofs.shared.SharedDispatcher.on_reset.Goals as goal

pub returns-clause-ok : goal.returns-clause-ok
returns-clause-ok g c =
    rw (← c.self.view_is, c.reset.ensures) (λ s sub change agreed. record {
      kind = change.log.kind ∙ agreed.kind;
      waiting = tells-new (g.V.View.state c.args._view.now) (g.V.View.subscription c.args._view.now);
      line = agreed.line ∙ sym change.line;
    })
