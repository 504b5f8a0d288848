use Rattle.std.proofs.Common.{◌≡◌, ◌==◌, not, rules}
use Rattle.std.specs.List.{filter}
use Rattle.std.proofs.lemmas.Fn.{filter_same}
use Rattle.dispatch_shared.specs.declared.seat.Seat.{Seat}
use Rattle.dispatch_shared.proofs.Agreeing.{leaves}
use Rattle.dispatch_shared.proofs.shared.SharedDispatcher.on_leave.Goals as goal

pub returns : goal.returns
returns g c =
    let kept : c.retain.new.self.items ≡ filter (λ (seat : Seat). not (seat.consumer == c.args.consumer)) c.self.inside.seats.items =
    filter_same _ _ _ (λ x b f' k. search rules) _ _ c.retain.ensures.filtered in
    rw (← c.self.view_is) (λ s sub change agreed.
    leaves c.self.inside.waiting c.self.inside.last c.self.inside.seats.items c.retain.new.self.items c.args.consumer s sub _ _ kept change agreed)
