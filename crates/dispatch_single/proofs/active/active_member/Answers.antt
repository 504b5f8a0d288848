use Rattle.std.proofs.Common.{ℕ, subst, arith}
use Rattle.dispatch_core.specs.Log.{line_of}
use Rattle.dispatch_single.specs.InOrder.{pair_of, IsActiveIn}
use Rattle.dispatch_single.proofs.InLine.{goes_on, seen_within, unseen_past}
use Rattle.dispatch_single.proofs.active.active_member.Goals as goal

pub overflow_add-place : goal.overflow_add-place
overflow_add-place g c =
    let line = line_of (g.V.View.state c.args.view.now) (g.V.View.subscription c.args.view.now) in
    let within = seen_within line c.loop-next.place (pair_of c.in-Some.next) c.in-Some.ensures.pair in
    omega (arith, c.in-Some.ensures.few)

pub loop-next-preserved : goal.loop-next-preserved
loop-next-preserved g c =
    let line = line_of (g.V.View.state c.args.view.now) (g.V.View.subscription c.args.view.now) in
    record {
      within = omega (arith, seen_within line c.loop-next.place (pair_of c.in-Some.next) c.in-Some.ensures.pair);
      best = goes_on line c.loop-next.place c.loop-next.best c.in-Some.next c.better.result c.in-Some.ensures.pair c.in-Some.ensures.place (c.better.ensures line) c.loop-next.invariant.best;
    }

pub loop-next-smaller : goal.loop-next-smaller
loop-next-smaller g c =
    let line = line_of (g.V.View.state c.args.view.now) (g.V.View.subscription c.args.view.now) in
    let within = seen_within line c.loop-next.place (pair_of c.in-Some.next) c.in-Some.ensures.pair in
    omega arith

pub returns : goal.returns
returns g c =
    let line = line_of (g.V.View.state c.args.view.now) (g.V.View.subscription c.args.view.now) in
    let all = unseen_past line c.loop-next.place c.in_default.ensures.pair in
    subst (λ (n : ℕ). IsActiveIn line n c.loop-next.best) (omega (arith, all, c.loop-next.invariant.within)) c.loop-next.invariant.best
