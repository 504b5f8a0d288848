use Rattle.std.proofs.Common.{sym, arith}
use Rattle.dispatch_keyed.proofs.Owners.{drains_more, drains_here, drains_nowhere}
use Rattle.dispatch_keyed.proofs.hashes.is_draining.Goals as goal

pub returns-then-drains_at : goal.returns-then-drains_at
returns-then-drains_at g c =
    sym (drains_here (g.V.View.state c.args.view.now) (g.V.View.subscription c.args.view.now) c.args.hash c.args.owner c.loop-index.index (omega (arith, c.length-index-end.ensures)) (sym c.if-drains_at.ensures))

pub loop-index-preserved : goal.loop-index-preserved
loop-index-preserved g c =
    drains_more (g.V.View.state c.args.view.now) (g.V.View.subscription c.args.view.now) c.args.hash c.args.owner c.loop-index.index (omega (arith, c.length-index-end.ensures)) (sym c.if-drains_at.ensures) c.loop-index.invariant

pub returns : goal.returns
returns g c =
    sym (drains_nowhere (g.V.View.state c.args.view.now) (g.V.View.subscription c.args.view.now) c.args.hash c.args.owner c.loop-index.index (omega (arith, c.length-index-end.ensures)) (omega (arith, c.length-index-end.ensures)) c.loop-index.invariant)
