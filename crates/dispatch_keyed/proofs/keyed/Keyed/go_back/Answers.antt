use Rattle.std.proofs.Common.{refl, sym, ◌∙◌, arith}
use Rattle.dispatch_keyed.proofs.Agreed.{agrees_back}
use Rattle.dispatch_keyed.proofs.Standing.{is_none}
use Rattle.dispatch_keyed.proofs.keyed.Keyed.go_back.Goals as goal

pub loop-self-preserved : goal.loop-self-preserved
loop-self-preserved g c = (
  λ agreed.
      agrees_back c.loop-self.self _ (g.V.View.state c.args.view.now) (g.V.View.subscription c.args.view.now) (c.loop-self.invariant.0 agreed) refl refl (omega arith)
      (sym c.holder.ensures ∙ is_none _ (sym c.is_some.ensures ∙ c.if-is_some.false)) (λ _. refl) (λ _. refl),
  c.loop-self.invariant.1,
)
