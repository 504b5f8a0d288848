use Rattle.std.proofs.lemmas.Bool.{not-true, not-false}
use Rattle.dispatch_single.proofs.Serves.{none_in_line, none_unseen, none_without_room, none_without_message, good_offer}
use Rattle.dispatch_single.proofs.single.SingleDispatcher.offer.Goals as goal

pub returns-in_err-active-clause-none : goal.returns-in_err-active-clause-none
returns-in_err-active-clause-none g c =
    rw (← c.self.view_is, c.from_residual.ensures) (λ agreed.
    none_in_line (g.V.View.state c.args.view.now) (g.V.View.subscription c.args.view.now) c.self.inside.line.active agreed.kind c.in_err-active.was agreed.line.active)

pub returns-in_err-member-clause-none : goal.returns-in_err-member-clause-none
returns-in_err-member-clause-none g c =
    rw (← c.self.view_is, c.from_residual-in_err-member.ensures) (λ agreed.
    none_unseen (g.V.View.state c.args.view.now) (g.V.View.subscription c.args.view.now) c.self.inside.line.active c.in_ok-active.active agreed.kind c.in_ok-active.was agreed.line.active c.member.result c.in_err-member.was c.member.ensures.seen)

pub returns-then-not-member-clause-none : goal.returns-then-not-member-clause-none
returns-then-not-member-clause-none g c =
    rw (← c.self.view_is) (λ agreed.
    none_without_room (g.V.View.state c.args.view.now) (g.V.View.subscription c.args.view.now) c.self.inside.line.active c.in_ok-active.active agreed.kind c.in_ok-active.was agreed.line.active c.in_ok-member.member c.in_ok-member.ensures.seen (not-true c.in_ok-member.member.room c.if-not-member.true))

pub returns-in_err-index-clause-none : goal.returns-in_err-index-clause-none
returns-in_err-index-clause-none g c =
    rw (← c.self.view_is, c.from_residual-in_err-index.ensures) (λ agreed.
    none_without_message (g.V.View.state c.args.view.now) (g.V.View.subscription c.args.view.now) agreed.kind (c.in_err-index.ensures.none agreed.waiting))

pub returns-clause-some : goal.returns-clause-some
returns-clause-some g c =
    rw (← c.self.view_is) (λ agreed.
    good_offer (g.V.View.state c.args.view.now) (g.V.View.subscription c.args.view.now) c.self.inside.line.active c.in_ok-active.active agreed.kind c.in_ok-active.was agreed.line.active c.in_ok-index.index c.in_ok-member.member c.in_ok-member.ensures.seen (not-false c.in_ok-member.member.room c.if-not-member.false) (c.in_ok-index.ensures.some agreed.waiting))
