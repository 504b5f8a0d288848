use Rattle.std.proofs.Common.{ap, ◌∙◌}
use Rattle.delivery_machine.specs.Shares.{owner_of}
use Rattle.dispatch_keyed.proofs.Owning.{line_in, shares_in}
use Rattle.dispatch_keyed.proofs.Owners.{roomy, owner_is_away, owner_is_full}
use Rattle.dispatch_keyed.proofs.hashes.roomy_owner.Goals as goal

pub returns-in_err-seen-clause-none : goal.returns-in_err-seen-clause-none
returns-in_err-seen-clause-none g c agree =
    rw c.from_residual-in_err-seen.ensures
    (owner_is_away (g.V.View.state c.args.view.now) (g.V.View.subscription c.args.view.now) c.args.hash c.in_ok-owner.owner (c.in_ok-owner.ensures.value ∙ ap (λ bs. owner_of bs c.args.hash) (shares_in agree)) (c.in_err-seen.ensures (line_in agree)))

pub returns-then-seen-clause-some : goal.returns-then-seen-clause-some
returns-then-seen-clause-some g c agree =
    roomy (g.V.View.state c.args.view.now) (g.V.View.subscription c.args.view.now) c.args.hash c.in_ok-owner.owner c.in_ok-seen.seen (c.in_ok-owner.ensures.value ∙ ap (λ bs. owner_of bs c.args.hash) (shares_in agree)) (c.in_ok-seen.ensures (line_in agree)) c.if-seen.true

pub returns-else-seen-clause-none : goal.returns-else-seen-clause-none
returns-else-seen-clause-none g c agree =
    owner_is_full (g.V.View.state c.args.view.now) (g.V.View.subscription c.args.view.now) c.args.hash c.in_ok-owner.owner c.in_ok-seen.seen (c.in_ok-owner.ensures.value ∙ ap (λ bs. owner_of bs c.args.hash) (shares_in agree)) (c.in_ok-seen.ensures (line_in agree)) c.if-seen.false
