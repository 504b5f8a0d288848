use Rattle.std.proofs.Common.{sym, ◌∙◌}
use Rattle.dispatch_keyed.proofs.Owners.{free_for, not_roomy, not_still}
use Rattle.dispatch_keyed.proofs.hashes.free_owner.Goals as goal

pub returns-in_err-owner-clause-none : goal.returns-in_err-owner-clause-none
returns-in_err-owner-clause-none g c agree =
    rw c.from_residual.ensures
    (not_roomy (g.V.View.state c.args.view.now) (g.V.View.subscription c.args.view.now) c.args.hash (c.in_err-owner.ensures.none agree))

pub returns-then-is_draining-clause-none : goal.returns-then-is_draining-clause-none
returns-then-is_draining-clause-none g c agree =
    not_still (g.V.View.state c.args.view.now) (g.V.View.subscription c.args.view.now) c.args.hash c.in_ok-owner.owner (c.in_ok-owner.ensures.some agree) (sym c.is_draining.ensures ∙ c.if-is_draining.true)

pub returns-else-is_draining-clause-some : goal.returns-else-is_draining-clause-some
returns-else-is_draining-clause-some g c agree =
    free_for (g.V.View.state c.args.view.now) (g.V.View.subscription c.args.view.now) c.args.hash c.in_ok-owner.owner (c.in_ok-owner.ensures.some agree) (sym c.is_draining.ensures ∙ c.if-is_draining.false)
