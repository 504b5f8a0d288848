use Rattle.std.proofs.Common.{◌∙◌, sym, ap, List, ℕ}
use Rattle.std.specs.List.{position}
use Rattle.delivery_machine.specs.Words.{is_named}
use Rattle.topic_served.specs.Served.{state_in}
use Rattle.topic_served.proofs.Settled.{has_a_subscription, well_of}
use Rattle.message_events.proofs.acknowledging.ack.Goals as goal

pub unreachable-requires : goal.unreachable-requires
unreachable-requires c =
    let s = state_in c.args.served.now in
    has_a_subscription s c.args.consumer c.in-Some.member.now (well_of s c.requires.reached) (sym c.in-Some.ensures)
    (c.in_default-place_of.ensures.value ∙ ap (λ (n : List ℕ). position (is_named n) s.subscriptions) (c.in-Ok.ensures.cases ∙ c.subscription.ensures))

pub acknowledge-requires-clause-well : goal.acknowledge-requires-clause-well
acknowledge-requires-clause-well c = well_of (state_in c.args.served.now) c.requires.reached
