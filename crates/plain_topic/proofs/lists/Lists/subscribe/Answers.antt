use Rattle.std.proofs.Common.{arith, ◌∙◌, sym}
use Rattle.machine_laws.proofs.TurnedAway.{is_let_in, turned_away}
use Rattle.plain_topic.specs.StateOf.{state_of}
use Rattle.plain_topic.proofs.lists.Lists.subscribe.Goals as goal

pub returns-in-Some : goal.returns-in-Some
returns-in-Some c =
    turned_away (state_of c.args.self.now) c.args.name.now c.args.kind c.args.terms.max_redeliver c.args.dead_topic.now c.args.ranges.now c.args.terms.level c.args.terms.flow c.args.terms.ack_timeout c.args.terms.nack_delay c.args.initial c.in-Some.fault
    (sym c.subscribing_refused-refused.ensures ∙ c.in-Some.is)

pub enter-requires : goal.enter-requires
enter-requires c =
    let one = is_let_in (state_of c.args.self.now) c.args.name.now c.args.kind c.args.terms.max_redeliver c.args.dead_topic.now c.args.ranges.now (sym c.subscribing_refused-refused.ensures ∙ c.in_default.is) in
    record { free = one.free }

pub overflow_add-self : goal.overflow_add-self
overflow_add-self c =
    let one = is_let_in (state_of c.args.self.now) c.args.name.now c.args.kind c.args.terms.max_redeliver c.args.dead_topic.now c.args.ranges.now (sym c.subscribing_refused-refused.ensures ∙ c.in_default.is) in
    omega (arith, one.number)
