use Rattle.std.proofs.Common.{[], ◌∷◌, subst, sym, arith}
use Rattle.dedup_core.specs.Sequences.{AgreesWith}
use Rattle.delivery_machine.specs.Ticking.{redelivered, redelivering}
use Rattle.dispatch_core.specs.Changes.{Released}
use Rattle.topic_log.specs.Written.{all_of, Written}
use Rattle.topic_subscriptions.specs.Placed.{is_placed, sub_in}
use Rattle.topic_parts.specs.Parts.{log_of, state_of}
use Rattle.topic_served.proofs.Telling.{one_stands, place_within, told_there}
use Rattle.tick_events.proofs.Held.{happens_released, stands_somewhere}
use Rattle.tick_events.proofs.ticking.redeliver.Goals as goal

pub unreachable-requires : goal.unreachable-requires
unreachable-requires c =
    let t = c.args.served.now.parts in
    let name = c.args.name.now in
    let x = one_stands (is_placed name) t.subscriptions.items c.args.place c.requires.place in
    stands_somewhere t name c.args.place x.0 c.args.position c.requires.place x.2 (c.requires.pending x.0 (sym x.1)) c.requires.bound.tied c.in_default.ensures

pub redeliver-requires-clause-within : goal.redeliver-requires-clause-within
redeliver-requires-clause-within c = place_within (is_placed c.args.name.now) c.args.served.now.parts.subscriptions.items c.args.place c.requires.place

pub at-view-requires-clause-within : goal.at-view-requires-clause-within
at-view-requires-clause-within c = omega (arith, c.redeliver.ensures.many, place_within (is_placed c.args.name.now) c.args.served.now.parts.subscriptions.items c.args.place c.requires.place)

pub returns-clause-state : goal.returns-clause-state
returns-clause-state c = c.redeliver.ensures.state c.args.name.now c.requires.place

pub returns-clause-bound : goal.returns-clause-bound
returns-clause-bound c =
    let old = c.args.served.now.parts in
    let name = c.args.name.now in
    let place = c.args.place in
    let q = c.args.position in
    let x = one_stands (is_placed name) old.subscriptions.items place c.requires.place in
    let sub = sub_in (log_of old) x.0 in
    let happens = happens_released old name place x.0 q c.requires.place x.2 (c.requires.pending x.0 (sym x.1)) c.len-length.ensures.rising c.requires.well x.1 c.in-Some.index (sym c.in-Some.ensures) in
    record {
      numbers = subst (λ (w : Written). AgreesWith (all_of w) w.numbers) (sym c.redeliver.ensures.log) c.requires.bound.numbers;
      tied = c.redeliver.ensures.tied;
      told = told_there c.args.served.now.dispatchers.items old c.redeliver.new.self c.at-view.result.parts.now (redelivered (state_of old) name (q ∷ [])) place (Released c.in-Some.index) sub (redelivering (q ∷ []) sub) c.at-view.result.subscription.now c.index_mut.result.now c.on_released.new.self
          c.requires.bound.told happens (c.redeliver.ensures.state name c.requires.place) c.at-view.ensures.parts c.at-view.ensures.subscription c.index_mut.ensures.value c.on_released.ensures;
    }
