use Rattle.std.proofs.Common.{◌≡◌, true, sym, subst, ap, ◌∙◌}
use Rattle.std.specs.FinSet as set
use Rattle.topic_subscriptions.specs.Closed.{Outcomes, lowered_by}
use Rattle.topic_subscriptions.proofs.Lowering.{closed_there, owed_lowered, seen_lowered}
use Rattle.topic_subscriptions.proofs.closed.Closed.trim.Goals as goal

pub forget_below-requires : goal.forget_below-requires
forget_below-requires c = λ k below. closed_there c.self.inside.all c.self.inside.owed.places k (subst (λ (o : Outcomes). set.contains o.places k ≡ true) (sym c.self.view_is) (c.requires.acknowledged k below))

pub invariant_of-self : goal.invariant_of-self
invariant_of-self c =
    owed_lowered c.self.inside.all c.self.inside.owed.places c.forget_below.new.self c.shift_down.new.self.places c.args.count c.forget_below.ensures c.shift_down.ensures.places c.self.inside.owed_count
    (λ k below. subst (λ (o : Outcomes). set.contains o.places k ≡ true) (sym c.self.view_is) (c.requires.acknowledged k below)) c.self.invariant

pub returns : goal.returns
returns c =
    seen_lowered c.self.inside.all c.self.inside.owed.places c.forget_below.new.self c.shift_down.new.self.places c.args.count c.forget_below.ensures c.shift_down.ensures.places
    ∙ ap (lowered_by c.args.count) c.self.view_is
