use Rattle.std.proofs.Common.{◌∙◌, List, ℕ, Some, None, sym, ap}
use Rattle.std.specs.List.{position}
use Rattle.delivery_machine.specs.Words.{is_named}
use Rattle.delivery_machine.proofs.Places.{found_nothing}
use Rattle.topic_subscriptions.specs.Placed.{is_placed, sub_in}
use Rattle.topic_parts.specs.declared.parts.Parts.{Parts}
use Rattle.topic_parts.specs.Parts.{log_of, state_of}
use Rattle.delivery_machine.specs.declared.consumer_counts.ConsumerCounts.{ConsumerCounts}
use Rattle.delivery_machine.specs.ConsumerCounts.{counts_in}
use Rattle.topic_core.proofs.Consumers.{counts_by, subscription_at}
use Rattle.topic_core.proofs.watching.consumer_counts.Goals as goal

pub returns-in_default-place_of : goal.returns-in_default-place_of
returns-in_default-place_of c =
    let s = state_of c.args.served.now.parts in
    let m = c.in-Some.member.now in
    sym (counts_by s c.args.consumer m None (sym c.in-Some.ensures)
    (found_nothing (is_named m.subscription) s.subscriptions
    (c.in_default-place_of.ensures.value ∙ ap (λ (n : List ℕ). position (is_named n) s.subscriptions) c.subscription.ensures)))

pub returns : goal.returns
returns c =
    let t = c.args.served.now.parts in
    let m = c.in-Some.member.now in
    let x = c.at.result.subscription.now in
    ap (λ (k : ConsumerCounts). Some k) (c.counts_in.ensures ∙ ap (λ (p : Parts). counts_in (state_of p) (sub_in (log_of p) x) m) c.at.ensures.parts)
    ∙ sym (counts_by (state_of t) c.args.consumer m (Some (sub_in (log_of t) x)) (sym c.in-Some.ensures)
    (subscription_at t m.subscription c.in-Some-place_of.place x
    (c.in-Some-place_of.ensures.placed ∙ ap (λ (n : List ℕ). position (is_placed n) t.subscriptions.items) c.subscription.ensures) c.at.ensures.subscription))
