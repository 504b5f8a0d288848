use Rattle.std.proofs.Common.{[], rules}
use Rattle.topic_subscriptions.specs.Placed.{IsPlacedIn}
use Rattle.topic_core.specs.Restored.{IsAlone}
use Rattle.topic_core.proofs.Goes.{one_more, push_all}
use Rattle.topic_core.proofs.restoring.subscriptions_over.Goals as goal

pub loop-one-preserved : goal.loop-one-preserved
loop-one-preserved c =
    let log = c.args.log.now.log.log in
    let p = c.in_ok-subscription_over.field-0 in
    let restored = c.in_ok-subscription_over.ensures in
    record {
      state = one_more log c.args.kept.now c.loop-one.one-index c.one-item.result c.loop-one.subscriptions.items c.push.new.self.items p c.loop-one-test.true c.one-item.is c.loop-one.invariant.state (search rules) restored.state;
      placed = push_all (IsPlacedIn log []) c.loop-one.subscriptions.items c.push.new.self.items p (search rules) c.loop-one.invariant.placed restored.placed;
      alone = push_all IsAlone c.loop-one.subscriptions.items c.push.new.self.items p (search rules) c.loop-one.invariant.alone restored.alone;
    }
