use Rattle.std.proofs.Common.{ap, ◌∙◌, set, get_or}
use Rattle.std.proofs.lemmas.List.Edits.{map_over_more}
use Rattle.topic_subscriptions.specs.Placed.{safe_below_in}
use Rattle.log_events.proofs.storing.store_all_to.Goals as goal

pub loop-subscription-preserved : goal.loop-subscription-preserved
loop-subscription-preserved c =
    let item = get_or c.loop-subscription.subscriptions c.loop-subscription.subscription-index c.subscription-item.result in
    ap (set c.loop-subscription.subscriptions c.loop-subscription.subscription-index) c.store_to.ensures
    ∙ map_over_more (safe_below_in c.args.ordinal) c.args.subscriptions.now c.loop-subscription.subscriptions c.loop-subscription.subscription-index item c.loop-subscription-test.true c.loop-subscription.invariant (ap (get_or c.loop-subscription.subscriptions c.loop-subscription.subscription-index) c.subscription-item.is)
