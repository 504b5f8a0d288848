use Rattle.std.proofs.Common.{◌≡◌, Some, false, ap, sym, ◌∙◌, List, subst}
use Rattle.position_core.specs.declared.ranges.HashRange.{HashRange}
use Rattle.delivery_machine.specs.Shares.{is_taken, sticky_with}
use Rattle.dispatch_keyed.specs.Tables.{row_at}
use Rattle.dispatch_keyed.proofs.Agreed.{agrees_shared}
use Rattle.dispatch_keyed.proofs.Owning.{joined_owners, shares_in}
use Rattle.dispatch_keyed.proofs.Renewed.{firsts_taken}
use Rattle.dispatch_keyed.proofs.keyed.Keyed.on_join_sticky.Goals as goal

pub returns-in-Ok-clause-ok : goal.returns-in-Ok-clause-ok
returns-in-Ok-clause-ok g c s sub change agreed =
    let t = g.V.View.state c.args.view.now in
    let new = g.V.View.subscription c.args.view.now in
    let d = c.args.self.now in
    let e = c.renew_ranges.new.self in
    let call = c.renew_ranges.ensures in
    let ranges = c.as_slice.result.now in
    let same : ranges ≡ c.args.ranges.now = c.as_slice.ensures.value in
    agrees_shared d e s sub t new change.stays agreed
    (call.rest.owners ∙ joined_owners s sub t new (Some c.args.ranges.now) c.args.consumer d.owners c.join_sticky.new.self change agreed.kind agreed.owners c.in-Ok.ensures.ok)
    call.rest.read call.rest.sent (λ h. ap (λ m. row_at m h) call.rest.rows)
    (firsts_taken d e s sub t new agreed change.stays call.rest.rows c.args.consumer ranges
    (shares_in (call.rest.owners ∙ c.in-Ok.ensures.ok) ∙ ap (λ (rs : List HashRange). sticky_with c.args.consumer rs d.owners.shares) (sym same))
    c.as_slice.ensures.within
    (subst (λ (rs : List HashRange). is_taken rs d.owners.shares ≡ false) (sym same) c.requires.free)
    call.others call.first)
