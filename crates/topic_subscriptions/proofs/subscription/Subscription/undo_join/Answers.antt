use Rattle.std.proofs.Common.{ℕ, ◌-◌, ◌∙◌, ap, take}
use Rattle.topic_subscriptions.proofs.Undone.{join_undone}
use Rattle.topic_subscriptions.proofs.subscription.Subscription.undo_join.Goals as goal

pub returns : goal.returns
returns c taken ranges p is same policy none =
    let line = c.self.inside.line in
    join_undone c.args.kind taken ranges c.args.consumer p _ c.pop.new.self.items c.leave.new.self (c.self.view_is ∙ is) same policy none
    (c.pop.ensures.rest ∙ ap (λ (n : ℕ). take (n - 1) line.items) line.ok.0) c.leave.ensures
