use Rattle.dispatch_shared.proofs.Serving.{good_offer, none_without_message, none_without_room}
use Rattle.dispatch_shared.proofs.shared.SharedDispatcher.offer.Goals as goal

pub returns-clause-some : goal.returns-clause-some
returns-clause-some g c =
    rw (← c.self.view_is) (λ agreed.
    good_offer c.self.inside.last (g.V.View.state c.args.view.now) (g.V.View.subscription c.args.view.now) c.in_ok-index.index c.in_ok-seen.seen agreed.kind (c.in_ok-index.ensures.some agreed.waiting) (c.in_ok-seen.ensures (rw c.deref.ensures.value agreed.line)))

pub returns-in_err-index-clause-none : goal.returns-in_err-index-clause-none
returns-in_err-index-clause-none g c =
    rw (← c.self.view_is, c.from_residual.ensures) (λ agreed.
    none_without_message (g.V.View.state c.args.view.now) (g.V.View.subscription c.args.view.now) agreed.kind (c.in_err-index.ensures.none agreed.waiting))

pub returns-in_err-seen-clause-none : goal.returns-in_err-seen-clause-none
returns-in_err-seen-clause-none g c =
    rw (← c.self.view_is, c.from_residual-in_err-seen.ensures) (λ agreed.
    none_without_room c.self.inside.last (g.V.View.state c.args.view.now) (g.V.View.subscription c.args.view.now) agreed.kind (c.in_err-seen.ensures (rw c.deref.ensures.value agreed.line)))
