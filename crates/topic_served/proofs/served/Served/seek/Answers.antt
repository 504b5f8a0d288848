use Rattle.std.proofs.Common.{sym, subst, arith, take}
use Rattle.dispatch_core.specs.Changes.{Reset}
use Rattle.delivery_machine.specs.Seeking.{seeking, sought}
use Rattle.dedup_core.specs.Sequences.{AgreesWith}
use Rattle.topic_served.proofs.Resetting.{reset_sought}
use Rattle.topic_log.specs.Written.{all_of, Written}
use Rattle.topic_subscriptions.specs.Placed.{is_placed, sub_in}
use Rattle.topic_parts.specs.Parts.{log_of, state_of}
use Rattle.topic_served.proofs.Telling.{at_place, named_place, one_stands, place_within, told_there}
use Rattle.topic_served.proofs.served.Served.seek.Goals as goal

pub seek-requires-clause-within : goal.seek-requires-clause-within
seek-requires-clause-within c = place_within (is_placed c.args.name.now) c.args.self.now.parts.subscriptions.items c.args.place c.requires.place

pub at-view-requires-clause-within : goal.at-view-requires-clause-within
at-view-requires-clause-within c = omega (arith, c.in-Ok.ensures.many, place_within (is_placed c.args.name.now) c.args.self.now.parts.subscriptions.items c.args.place c.requires.place)

pub returns-in-Ok-clause-ok : goal.returns-in-Ok-clause-ok
returns-in-Ok-clause-ok c = c.in-Ok.ensures.ok c.args.name.now c.requires.place

pub returns-in-Ok-clause-bound : goal.returns-in-Ok-clause-bound
returns-in-Ok-clause-bound c =
    let old = c.args.self.now.parts in
    let name = c.args.name.now in
    let x = one_stands (is_placed name) old.subscriptions.items c.args.place c.requires.place in
    let sub = sub_in (log_of old) x.0 in
    let happens = reset_sought (state_of old) name c.args.place sub (named_place old name c.args.place c.requires.place) (at_place old c.args.place x.0 x.1) c.args.end in
    record {
      numbers = subst (λ (w : Written). AgreesWith (all_of w) w.numbers) (sym c.in-Ok.ensures.log) c.requires.bound.numbers;
      tied = c.in-Ok.ensures.tied;
      told = told_there c.args.self.now.dispatchers.items old c.seek.new.self c.at-view.result.parts.now (sought (state_of old) name c.args.end) c.args.place Reset sub (seeking (take c.args.end (log_of old)) sub) c.at-view.result.subscription.now c.index_mut.result.now c.reset.new.self
          c.requires.bound.told happens (c.in-Ok.ensures.ok name c.requires.place) c.at-view.ensures.parts c.at-view.ensures.subscription c.index_mut.ensures.value c.reset.ensures;
    }
