use Rattle.std.proofs.Common.{refl, ap, ◌∙◌}
use Rattle.std.specs.FinMap as map_of
use Rattle.dispatch_keyed.proofs.Agreed.{agrees_same, agrees_read}
use Rattle.dispatch_keyed.proofs.Standing.{knowledge_on}
use Rattle.dispatch_keyed.proofs.keyed.Keyed.read_as.Goals as goal

pub returns-in_err-make-clause-agrees : goal.returns-in_err-make-clause-agrees
returns-in_err-make-clause-agrees g c seen wait_is holder_is agreed =
    agrees_same c.args.self.now _ c.hash_at-hash.result (g.V.View.state c.args.view.now) (g.V.View.subscription c.args.view.now) agreed refl refl refl
    c.in_err-make.ensures.others c.in_err-make.ensures.here
    (λ h. ap (λ m. map_of.get m h) c.in_ok-grow.ensures.same)

pub returns-in_err-push-clause-agrees : goal.returns-in_err-push-clause-agrees
returns-in_err-push-clause-agrees g c seen wait_is holder_is agreed =
    agrees_same c.args.self.now _ c.hash_at-hash.result (g.V.View.state c.args.view.now) (g.V.View.subscription c.args.view.now) agreed refl refl refl
    (λ h other. c.in_err-push.ensures.others h other ∙ c.in_ok-make.ensures.others h other)
    (knowledge_on _ _ _ c.in_ok-make.ensures.here c.in_err-push.ensures.err)
    (λ h. ap (λ m. map_of.get m h) c.in_ok-grow.ensures.same)

pub returns-clause-agrees : goal.returns-clause-agrees
returns-clause-agrees g c seen wait_is holder_is agreed =
    let s = g.V.View.state c.args.view.now in
    let sub = g.V.View.subscription c.args.view.now in
    agrees_read c.args.self.now _ _ _ c.hash_at-hash.result c.args.waits c.args.holder s sub agreed c.hash_at-hash.ensures wait_is holder_is
    refl refl refl
    (λ h other. c.stand.ensures.others h other ∙ c.in_ok-push.ensures.others h other ∙ c.in_ok-make.ensures.others h other)
    c.in_ok-make.ensures.here c.in_ok-push.ensures.ok c.stand.ensures.here
    (λ h other. c.renew.ensures.others h other ∙ ap (λ m. map_of.get m h) c.in_ok-grow.ensures.same)
    c.renew.ensures.first seen c.requires
