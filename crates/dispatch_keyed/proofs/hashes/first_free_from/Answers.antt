use Rattle.std.proofs.Common.{subst, arith}
use Rattle.dispatch_keyed.specs.Hashes.{IsFreeFor}
use Rattle.dispatch_keyed.proofs.Serving.{none_ready_past, good_offer, none_eligible}
use Rattle.dispatch_keyed.proofs.hashes.first_free_from.Goals as goal

pub returns-in_err-index-clause-none : goal.returns-in_err-index-clause-none
returns-in_err-index-clause-none g c kind agree before =
    rw c.from_residual.ensures
    (none_eligible (g.V.View.state c.args.view.now) (g.V.View.subscription c.args.view.now) c.loop-from.from kind c.in_err-index.ensures.none (c.loop-from.invariant agree before))

pub returns-in-Some-clause-some : goal.returns-in-Some-clause-some
returns-in-Some-clause-some g c kind agree before =
    let s = g.V.View.state c.args.view.now in
    let sub = g.V.View.subscription c.args.view.now in
    good_offer s sub c.loop-from.from c.in_ok-index.index c.in-Some.consumer kind c.in_ok-index.ensures.some (c.loop-from.invariant agree before)
    (subst (λ h. IsFreeFor s sub h c.in-Some.consumer) c.hash_at.ensures (c.in-Some.ensures.some agree))

pub returns-clause-none : goal.returns-clause-none
returns-clause-none g c kind agree before =
    let s = g.V.View.state c.args.view.now in
    let sub = g.V.View.subscription c.args.view.now in
    none_eligible s sub c.loop-from.from kind (none_ready_past s sub c.loop-from.from (omega (arith, c.visible-visible.ensures))) (c.loop-from.invariant agree before)
