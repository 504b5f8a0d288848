use Rattle.std.proofs.Common.{◌≡◌, length, arith}
use Rattle.dispatch_shared.proofs.Agreeing.{joins, joins_unseen, then_ok}
use Rattle.dispatch_shared.proofs.shared.SharedDispatcher.on_join.Goals as goal

pub returns-in-Some-clause-ok : goal.returns-in-Some-clause-ok
returns-in-Some-clause-ok g c =
    let seats = c.self.inside.seats in
    let many : c.len.result ≡ length seats.items = omega (arith, c.len.ensures, seats.ok) in
    rw (← c.self.view_is) (then_ok c.sit.result (λ pushed s sub change agreed.
    joins c.self.inside.waiting c.self.inside.last seats.items c.args._consumer s sub _ _ change agreed c.len.result c.of.result c.in-Some.seen c.sit.new.seats.items many c.of.ensures c.in-Some.ensures.seen pushed)
    c.sit.ensures.ok)

pub returns-in-None-clause-ok : goal.returns-in-None-clause-ok
returns-in-None-clause-ok g c =
    let seats = c.self.inside.seats in
    let many : c.len.result ≡ length seats.items = omega (arith, c.len.ensures, seats.ok) in
    rw (← c.self.view_is) (λ s sub change agreed.
    absurd (joins_unseen c.self.inside.waiting c.self.inside.last seats.items c.args._consumer s sub _ _ change agreed c.len.result many c.in-None.ensures.seen))
