use Rattle.std.proofs.Common.{ap, ◌∙◌, set, get_or}
use Rattle.std.proofs.lemmas.List.Edits.{map_over_more}
use Rattle.topic_subscriptions.specs.Placed.{trimmed_to}
use Rattle.topic_subscriptions.proofs.trimming.trim_each.Goals as goal

pub loop-subscription-preserved : goal.loop-subscription-preserved
loop-subscription-preserved c =
    let item = get_or c.loop-subscription.subscriptions c.loop-subscription.subscription-index c.subscription-item.result in
    ap (set c.loop-subscription.subscriptions c.loop-subscription.subscription-index) c.trim.ensures
    ∙ map_over_more (trimmed_to c.args.count) c.args.subscriptions.now c.loop-subscription.subscriptions c.loop-subscription.subscription-index item c.loop-subscription-test.true c.loop-subscription.invariant (ap (get_or c.loop-subscription.subscriptions c.loop-subscription.subscription-index) c.subscription-item.is)
