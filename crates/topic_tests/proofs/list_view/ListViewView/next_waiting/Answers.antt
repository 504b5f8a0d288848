use Rattle.std.proofs.Common.{arith}
use Rattle.topic_tests.specs.Listed.{listed}
use Rattle.topic_tests.proofs.NextWaiting.{next_found, passed_over}
use Rattle.topic_tests.proofs.list_view.ListViewView.next_waiting.Goals as goal

pub returns-then-is_waiting-clause-some : goal.returns-then-is_waiting-clause-some
returns-then-is_waiting-clause-some c =
    let v = c.args.self.now in
    next_found (listed v.log.now v.durable v.members.now) v.subscription.now _ _ c.index-self-index.result c.loop-index.auto.index (omega (arith, c.visible-index-end.ensures)) c.if-is_waiting.ensures c.loop-index.invariant

pub loop-index-preserved : goal.loop-index-preserved
loop-index-preserved c =
    let v = c.args.self.now in
    passed_over (listed v.log.now v.durable v.members.now) v.subscription.now _ _ c.index-self-index.result (omega (arith, c.visible-index-end.ensures)) c.if-is_waiting.ensures c.loop-index.invariant
