use Rattle.std.proofs.Common.{◌∙◌, ap, length, subst, sym, arith}
use Rattle.std.specs.Prelude.{is_some}
use Rattle.dedup_core.specs.Sequences.{AgreesWith}
use Rattle.delivery_machine.specs.Ticking.{redelivered, redelivering}
use Rattle.dispatch_core.specs.Changes.{Reset}
use Rattle.topic_served.proofs.Resetting.{reset_redelivered}
use Rattle.topic_log.specs.Written.{all_of, Written}
use Rattle.topic_subscriptions.specs.Placed.{Placed, is_placed, sub_in}
use Rattle.topic_parts.specs.Parts.{log_of, state_of}
use Rattle.topic_parts.proofs.Changing.{placed_there, there_is}
use Rattle.topic_served.proofs.Telling.{at_place, named_place, one_stands, place_within, told_there}
use Rattle.tick_events.specs.Rewinding.{pending_at}
use Rattle.tick_events.proofs.Listed.{number_listed}
use Rattle.tick_events.proofs.Recounted.{of_log}
use Rattle.tick_events.proofs.Rewound.{all_listed_there}
use Rattle.tick_events.proofs.rewinding.rewind.Goals as goal

pub at-view-requires-clause-within : goal.at-view-requires-clause-within
at-view-requires-clause-within c = omega (arith, c.take_all_back.ensures.many, place_within (is_placed c.args.name.now) c.args.served.now.parts.subscriptions.items c.args.place c.requires.place)

pub returns-clause-count : goal.returns-clause-count
returns-clause-count c p at =
    let t = c.args.served.now.parts in
    let x = c.index.result.now in
    c.number_pending-count.ensures
    ∙ sym (number_listed (log_of t) x.pending.pending c.len-length.ensures.rising
    (of_log (log_of t) t.members.members x (placed_there (log_of t) t.subscriptions.items c.args.name.now c.args.place c.requires.place t.members.members x c.requires.bound.tied c.index.ensures)))
    ∙ ap (λ (z : Placed). length (pending_at t z)) (there_is t.subscriptions.items c.args.place x p c.index.ensures (sym at))

pub returns-clause-bound : goal.returns-clause-bound
returns-clause-bound c =
    let old = c.args.served.now.parts in
    let name = c.args.name.now in
    let place = c.args.place in
    let x = one_stands (is_placed name) old.subscriptions.items place c.requires.place in
    let sub = sub_in (log_of old) x.0 in
    let ps = pending_at old x.0 in
    let happens = reset_redelivered (state_of old) name place sub (named_place old name place c.requires.place) (at_place old place x.0 x.1) ps
    (λ q h is. all_listed_there old name place x.0 c.requires.place x.2 c.requires.bound.tied q (ap is_some is)) in
    record {
      numbers = subst (λ (w : Written). AgreesWith (all_of w) w.numbers) (sym c.take_all_back.ensures.log) c.requires.bound.numbers;
      tied = c.take_all_back.ensures.tied;
      told = told_there c.args.served.now.dispatchers.items old c.take_all_back.new.parts c.at-view.result.parts.now (redelivered (state_of old) name ps) place Reset sub (redelivering ps sub) c.at-view.result.subscription.now c.index_mut.result.now c.reset.new.self
          c.requires.bound.told happens (c.take_all_back.ensures.state x.0 (sym x.1)) c.at-view.ensures.parts c.at-view.ensures.subscription c.index_mut.ensures.value c.reset.ensures;
    }
