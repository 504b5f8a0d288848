use Rattle.std.proofs.Common.{refl}
use Rattle.topic_subscriptions.proofs.subscription.Subscription.restored.Goals as goal

pub returns : goal.returns
returns c =
    rw (c.in_ok-name.ensures.cases, c.in_ok-closed.ensures, c.in_ok-acknowledged.ensures.cases, c.in_ok-letters.ensures, c.in_ok-pending.ensures, c.deref.ensures.value, c.new.ensures.items, c.new-2.ensures, ← c.kept.view_is) refl
