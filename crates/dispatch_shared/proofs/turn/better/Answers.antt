use Rattle.std.proofs.Common.{◌∙◌, sym}
use Rattle.dispatch_shared.specs.Seats.{seat_pair}
use Rattle.dispatch_shared.proofs.Goes.{behind_best, before_best, without_room}
use Rattle.dispatch_shared.proofs.turn.better.Goals as goal

pub returns-then-not-goes_before : goal.returns-then-not-goes_before
returns-then-not-goes_before g c = λ there is.
    behind_best c.args.last (g.V.View.state c.args.view.now) (g.V.View.subscription c.args.view.now) c.args.place (seat_pair c.args.seat) c.args.best there is (sym c.goes_before.ensures ∙ c.if-not-goes_before.true)

pub returns-in-Some : goal.returns-in-Some
returns-in-Some g c = λ there is.
    before_best c.args.last (g.V.View.state c.args.view.now) (g.V.View.subscription c.args.view.now) c.args.place (seat_pair c.args.seat) c.args.best there is c.in-Some.seen (sym c.goes_before.ensures ∙ c.if-not-goes_before.false) c.in-Some.ensures.seen c.in-Some.ensures.room

pub returns-in-None : goal.returns-in-None
returns-in-None g c = λ there is.
    without_room c.args.last (g.V.View.state c.args.view.now) (g.V.View.subscription c.args.view.now) c.args.place (seat_pair c.args.seat) c.args.best there is c.in-None.ensures.none
