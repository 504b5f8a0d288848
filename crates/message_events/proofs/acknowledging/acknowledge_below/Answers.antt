use Rattle.std.proofs.Common.{◌∙◌, sym, ap, subst, arith, List, [], ◌∷◌}
use Rattle.position_core.specs.declared.message.Entry.{Entry}
use Rattle.delivery_machine.specs.State.{State}
use Rattle.delivery_machine.specs.Acknowledging.{with_acknowledged}
use Rattle.topic_subscriptions.specs.Placed.{IsRising, is_placed}
use Rattle.topic_parts.specs.Parts.{log_of}
use Rattle.topic_served.specs.Served.{state_in}
use Rattle.topic_served.specs.Firsts.{firsts}
use Rattle.topic_served.proofs.Telling.{place_within}
use Rattle.message_events.proofs.InTurn.{begins, ends, goes_on, later_missing, place_stays}
use Rattle.message_events.proofs.acknowledging.acknowledge_below.Goals as goal

pub loop-index-init : goal.loop-index-init
loop-index-init c =
    begins c.args.served.now c.args.consumer c.args.name.now c.args.place c.args.end c.first_missing-index.result c.len-length.ensures.rising c.requires.settled c.requires.consumer c.requires.place c.first_missing-index.ensures

pub first_missing-index-requires-in-loop-index : goal.first_missing-index-requires-in-loop-index
first_missing-index-requires-in-loop-index c =
    let is = c.acknowledge_first.ensures.state in
    place_within (is_placed c.args.name.now) c.acknowledge_first.new.served.parts.subscriptions.items c.args.place
    (place_stays c.loop-index.served.parts c.acknowledge_first.new.served.parts c.args.name.now c.args.place (is.0.position ∷ []) is.2 c.loop-index.invariant.there)

pub loop-index-smaller : goal.loop-index-smaller
loop-index-smaller c =
    let so_far = c.loop-index.invariant in
    let rising = subst (λ (l : List Entry). IsRising l) (sym (ap (λ (s : State). s.log) so_far.state)) c.len-length.ensures.rising in
    let less = later_missing c.loop-index.served c.acknowledge_first.new.served c.args.name.now c.args.place c.loop-index.index c.first_missing-index-in-loop-index.result rising so_far.there so_far.missing c.acknowledge_first.ensures.state c.first_missing-index-in-loop-index.ensures in
    omega (arith, less, c.loop-index-test.true)

pub loop-index-preserved : goal.loop-index-preserved
loop-index-preserved c =
    let so_far = c.loop-index.invariant in
    let rising = subst (λ (l : List Entry). IsRising l) (sym (ap (λ (s : State). s.log) so_far.state)) c.len-length.ensures.rising in
    goes_on c.args.served.now c.loop-index.served c.acknowledge_first.new.served c.args.consumer c.args.name.now c.args.place c.args.end c.loop-index.index c.first_missing-index-in-loop-index.result rising so_far c.loop-index-test.true
    c.acknowledge_first.ensures.settled c.acknowledge_first.ensures.state c.first_missing-index-in-loop-index.ensures

pub returns-clause-state : goal.returns-clause-state
returns-clause-state c =
    c.loop-index.invariant.state
    ∙ ap (λ n. with_acknowledged (state_in c.args.served.now) c.args.name.now (firsts n (log_of c.args.served.now.parts))) (ends c.loop-index.index c.args.end c.loop-index-test.false)
