use Rattle.std.proofs.Common.{sym, ap, subst, arith, List, [], ◌∷◌}
use Rattle.position_core.specs.declared.message.Entry.{Entry}
use Rattle.delivery_machine.specs.State.{State}
use Rattle.topic_subscriptions.specs.Placed.{IsRising}
use Rattle.message_events.proofs.InTurn.{place_stays}
use Rattle.seek_events.proofs.InTurn.{begins, ends, ends_early, goes_on}
use Rattle.seek_events.proofs.skipping.skip_all.Goals as goal

pub loop-done-init : goal.loop-done-init
loop-done-init c = begins c.args.served.now c.args.name.now c.args.place c.args.count c.requires.settled c.requires.place

pub returns-then-index-durable-clause-state : goal.returns-then-index-durable-clause-state
returns-then-index-durable-clause-state c =
    let so_far = c.loop-done.invariant in
    let rising = subst (λ (l : List Entry). IsRising l) (sym (ap (λ (s : State). s.log) so_far.state)) c.len-length.ensures.rising in
    let durable_is = ap (λ (s : State). s.durable) so_far.state in
    ends_early c.args.served.now c.loop-done.served c.args.name.now c.args.place c.args.count c.loop-done.done c.first_live-index.result rising so_far c.first_live-index.ensures
    (omega (arith, durable_is, c.durable-durable.ensures.value, c.if-index-durable.true))

pub loop-done-preserved : goal.loop-done-preserved
loop-done-preserved c =
    let so_far = c.loop-done.invariant in
    let rising = subst (λ (l : List Entry). IsRising l) (sym (ap (λ (s : State). s.log) so_far.state)) c.len-length.ensures.rising in
    let durable_is = ap (λ (s : State). s.durable) so_far.state in
    let skips = c.skip_first.ensures.state in
    goes_on c.args.served.now c.loop-done.served c.skip_first.new.served c.args.name.now c.args.place c.args.count c.loop-done.done c.first_live-index.result rising so_far c.loop-done-test.true c.first_live-index.ensures
    (omega (arith, durable_is, c.durable-durable.ensures.value, c.if-index-durable.false))
    c.skip_first.ensures.settled
    (place_stays c.loop-done.served.parts c.skip_first.new.served.parts c.args.name.now c.args.place (skips.0.position ∷ []) skips.2 so_far.there)
    skips

pub returns-clause-state : goal.returns-clause-state
returns-clause-state c = ends c.args.served.now c.loop-done.served c.args.name.now c.args.place c.args.count c.loop-done.done c.loop-done.invariant c.loop-done-test.false
