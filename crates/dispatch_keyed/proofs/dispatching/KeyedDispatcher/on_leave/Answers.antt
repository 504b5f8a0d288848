use Rattle.std.proofs.Common.{ap, sym, ◌∙◌}
use Rattle.delivery_machine.specs.Shares.{shares_without}
use Rattle.dispatch_keyed.specs.Tables.{row_at}
use Rattle.dispatch_keyed.specs.declared.seats.Owners.{Owners}
use Rattle.dispatch_keyed.proofs.Agreed.{agrees_shared}
use Rattle.dispatch_keyed.proofs.Owning.{left_owners, shares_in}
use Rattle.dispatch_keyed.proofs.Renewed.{firsts_left, agrees_forgotten}
use Rattle.dispatch_keyed.proofs.dispatching.KeyedDispatcher.on_leave.Goals as goal

pub returns-then-is_sticky : goal.returns-then-is_sticky
returns-then-is_sticky g c s sub change agreed =
    let t = g.V.View.state c.args.view.now in
    let new = g.V.View.subscription c.args.view.now in
    let d = c.args.self.now in
    let call = c.forget_owned.ensures in
    agrees_forgotten d _ s sub t new agreed change.stays call.rest.rows c.args.consumer
    (left_owners s sub t new c.args.consumer c.forget_owned.new.self.owners c.leave.new.self change (call.rest.owners ∙ agreed.owners) c.leave.ensures)
    call.rest.read call.rest.sent
    (shares_in c.leave.ensures ∙ ap (λ (o : Owners). shares_without c.args.consumer o.shares) call.rest.owners)
    (sym c.is_sticky.ensures ∙ c.if-is_sticky.true) call.apart call.others call.gone

pub returns-else-is_sticky : goal.returns-else-is_sticky
returns-else-is_sticky g c s sub change agreed =
    let t = g.V.View.state c.args.view.now in
    let new = g.V.View.subscription c.args.view.now in
    let d = c.args.self.now in
    let e = c.renew_between.new.self in
    let call = c.renew_between.ensures in
    let left = c.leave-else-is_sticky in
    agrees_shared d e s sub t new change.stays agreed
    (call.rest.owners ∙ left_owners s sub t new c.args.consumer d.owners left.new.self change agreed.owners left.ensures)
    call.rest.read call.rest.sent (λ h. ap (λ m. row_at m h) call.rest.rows)
    (firsts_left d e s sub t new agreed change.stays call.rest.rows c.args.consumer _ _ (shares_in (call.rest.owners ∙ left.ensures)) (sym c.is_sticky.ensures ∙ c.if-is_sticky.false) c.hashes_of-from.ensures.split c.hashes_of-from.ensures.outside call.others call.first)
