use Rattle.std.proofs.Common.{refl, ap, ◌∙◌}
use Rattle.number_sets.specs.Firsts.{Firsts}
use Rattle.dispatch_keyed.proofs.Agreed.{agrees_empty}
use Rattle.dispatch_keyed.proofs.Owning.{same_owners}
use Rattle.dispatch_keyed.proofs.dispatching.KeyedDispatcher.on_reset.Goals as goal

pub returns-clause-ok : goal.returns-clause-ok
returns-clause-ok g c s sub change agreed =
    agrees_empty _ (g.V.View.state c.args._view.now) (g.V.View.subscription c.args._view.now) (change.log.kind ∙ agreed.kind) (same_owners s sub (g.V.View.state c.args._view.now) (g.V.View.subscription c.args._view.now) c.args.self.now.owners agreed.owners change.shares change.line) refl (λ i _. change.idle i)
    c.clear.ensures (ap (λ (f : Firsts). f.numbers) c.clear-2.ensures)
