use Rattle.std.proofs.Common.{refl, arith}
use Rattle.dispatch_keyed.proofs.Agreed.{agrees_past_all}
use Rattle.dispatch_keyed.proofs.keyed.Keyed.skip.Goals as goal

pub returns-then-self-clause-agrees : goal.returns-then-self-clause-agrees
returns-then-self-clause-agrees g c fits agreed =
    agrees_past_all c.args.self.now _ (g.V.View.state c.args.view.now) (g.V.View.subscription c.args.view.now) agreed c.if-self.true refl c.next_before-self.ensures.on refl (λ _. refl) (λ _. refl)
    (omega (arith, c.next_before-self.ensures.end, fits)) (omega (arith, c.next_before-self.ensures.end, c.requires.small)) (c.next_before-self.ensures.none fits)
