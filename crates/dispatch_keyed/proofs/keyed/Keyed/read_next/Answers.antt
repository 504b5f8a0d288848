use Rattle.std.proofs.Common.{refl, sym, ◌∙◌}
use Rattle.dispatch_keyed.proofs.Agreed.{agrees_past}
use Rattle.dispatch_keyed.proofs.Standing.{is_none}
use Rattle.dispatch_keyed.proofs.keyed.Keyed.read_next.Goals as goal

pub returns-clause-agrees : goal.returns-clause-agrees
returns-clause-agrees g c seen agreed =
    agrees_past c.args.self.now _ (g.V.View.state c.args.view.now) (g.V.View.subscription c.args.view.now) agreed refl refl refl (λ _. refl) (λ _. refl) seen c.requires
    (sym (c.is_waiting_at-waits.ensures seen) ∙ c.if-waits.false)
    (sym c.holder-holder.ensures ∙ is_none _ (sym c.is_some.ensures ∙ c.if-is_some.false))
