use Rattle.std.proofs.Common.{sym, ◌∙◌, arith}
use Rattle.dispatch_core.proofs.Line.{place_within, seen_all, seen_next}
use Rattle.dispatch_core.proofs.members.MembersIterator.next.Goals as goal

pub returns-in_err-seen-clause-steps : goal.returns-in_err-seen-clause-steps
returns-in_err-seen-clause-steps g c =
    let s = g.V.View.state c.self.inside.view.now in
    let sub = g.V.View.subscription c.self.inside.view.now in
    let nothing = sym c.self.view_is ∙ seen_all s sub c.self.inside.place c.in_err-seen.ensures.seen in
    rw c.from_residual.ensures (nothing, nothing)

pub overflow_add-self : goal.overflow_add-self
overflow_add-self g c =
    let s = g.V.View.state c.self.inside.view.now in
    let sub = g.V.View.subscription c.self.inside.view.now in
    omega (arith, place_within s sub c.self.inside.place c.in_ok-seen.seen c.in_ok-seen.ensures.seen, c.in_ok-seen.ensures.few)

pub returns-clause-steps : goal.returns-clause-steps
returns-clause-steps g c =
    let s = g.V.View.state c.self.inside.view.now in
    let sub = g.V.View.subscription c.self.inside.view.now in
    sym c.self.view_is ∙ seen_next s sub c.self.inside.place c.in_ok-seen.seen c.in_ok-seen.ensures.seen
