use Rattle.std.proofs.Common.{arith, ◌-◌, ◌^◌}
use Rattle.dispatch_keyed.proofs.Firsts.{keeps_all, not_free, first_there, none_there, not_beyond}
use Rattle.dispatch_keyed.proofs.renewing.first_of.Goals as goal

pub returns-then-not-is_free-clause-first : goal.returns-then-not-is_free-clause-first
returns-then-not-is_free-clause-first g c right _ =
    let s = g.V.View.state c.args.view.now in
    let sub = g.V.View.subscription c.args.view.now in
    not_free c.args.row.now c.args.base c.args.owner s sub (λ all. c.is_free.ensures.no (keeps_all c.args.row.now c.args.base s sub right) c.if-not-is_free.true all)

pub returns-then-first-lt-LIMIT-clause-first : goal.returns-then-first-lt-LIMIT-clause-first
returns-then-first-lt-LIMIT-clause-first g c right _ =
    let s = g.V.View.state c.args.view.now in
    let sub = g.V.View.subscription c.args.view.now in
    first_there c.args.row.now c.args.base c.args.owner s sub c.in-Some.first (c.is_free.ensures.yes (keeps_all c.args.row.now c.args.base s sub right) c.if-not-is_free.false) c.in-Some.ensures.some

pub returns-else-first-lt-LIMIT-clause-first : goal.returns-else-first-lt-LIMIT-clause-first
returns-else-first-lt-LIMIT-clause-first g c right before =
    absurd (omega (arith, c.if-first-lt-LIMIT.false, not_beyond c.args.row.now c.args.base c.args.owner (g.V.View.state c.args.view.now) (g.V.View.subscription c.args.view.now) c.in-Some.first (2 ^ 32 - 1) before c.in-Some.ensures.some))

pub returns-in-None-clause-first : goal.returns-in-None-clause-first
returns-in-None-clause-first g c right _ =
    none_there c.args.row.now c.args.base c.args.owner (g.V.View.state c.args.view.now) (g.V.View.subscription c.args.view.now) c.in-None.ensures.none
