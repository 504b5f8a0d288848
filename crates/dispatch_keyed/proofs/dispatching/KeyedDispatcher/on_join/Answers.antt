use Rattle.std.proofs.Common.{None, ap, ◌∙◌}
use Rattle.dispatch_keyed.specs.Tables.{row_at}
use Rattle.dispatch_keyed.proofs.Agreed.{agrees_shared}
use Rattle.dispatch_keyed.proofs.Owning.{joined_owners, shares_in}
use Rattle.dispatch_keyed.proofs.Renewed.{firsts_joined}
use Rattle.dispatch_keyed.proofs.dispatching.KeyedDispatcher.on_join.Goals as goal

pub returns-in-Ok-clause-ok : goal.returns-in-Ok-clause-ok
returns-in-Ok-clause-ok g c s sub change agreed =
    let t = g.V.View.state c.args.view.now in
    let new = g.V.View.subscription c.args.view.now in
    let d = c.args.self.now in
    let e = c.renew_owned.new.self in
    let call = c.renew_owned.ensures in
    agrees_shared d e s sub t new change.stays agreed
    (call.rest.owners ∙ joined_owners s sub t new None c.args.consumer d.owners c.join.new.self change agreed.kind agreed.owners c.in-Ok.ensures.ok)
    call.rest.read call.rest.sent (λ h. ap (λ m. row_at m h) call.rest.rows)
    (firsts_joined d e s sub t new agreed change.stays call.rest.rows c.args.consumer c.join.new.self.shares (shares_in c.in-Ok.ensures.ok) (shares_in call.rest.owners) call.others call.first)
