use Rattle.std.proofs.Common.{arith}
use Rattle.dispatch_shared.proofs.Goes.{all_gone_through, many_seats}
use Rattle.dispatch_shared.proofs.turn.next_in_turn.Goals as goal

pub returns : goal.returns
returns g c = λ same.
    let many = many_seats c.args.seats.now _ same in
    all_gone_through c.args.last (g.V.View.state c.args.view.now) (g.V.View.subscription c.args.view.now) c.loop-place.place c.loop-place.best (omega (arith, many, c.loop-place-test.false, c.loop-place.auto.place-end)) (c.loop-place.invariant same)
