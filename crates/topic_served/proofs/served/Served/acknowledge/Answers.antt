use Rattle.std.proofs.Common.{sym, subst, arith, [], ◌∷◌}
use Rattle.dispatch_core.specs.Changes.{Gone}
use Rattle.delivery_machine.specs.Acknowledging.{acknowledging, with_acknowledged}
use Rattle.dedup_core.specs.Sequences.{AgreesWith}
use Rattle.topic_served.proofs.Gone.{gone_acknowledged}
use Rattle.topic_log.specs.Written.{all_of, Written}
use Rattle.topic_subscriptions.specs.Placed.{is_placed, sub_in}
use Rattle.topic_parts.specs.Parts.{log_of, state_of}
use Rattle.topic_served.proofs.Telling.{about, one_stands, place_within, told_there}
use Rattle.topic_served.proofs.served.Served.acknowledge.Goals as goal

pub at-view-requires-clause-within : goal.at-view-requires-clause-within
at-view-requires-clause-within c = omega (arith, c.in-Ok.ensures.many, place_within (is_placed c.args.name.now) c.args.self.now.parts.subscriptions.items c.args.place c.requires.place)

pub returns-in-Ok-clause-bound : goal.returns-in-Ok-clause-bound
returns-in-Ok-clause-bound c =
    let old = c.args.self.now.parts in
    let name = c.args.name.now in
    let q = c.args.position in
    let x = one_stands (is_placed name) old.subscriptions.items c.args.place c.requires.place in
    let sub = sub_in (log_of old) x.0 in
    let happens = gone_acknowledged (state_of old) name c.args.place sub q c.args.index (about old name c.args.place x.0 q c.args.index c.len-length.ensures.rising c.requires.place x.1 c.requires.index) in
    record {
      numbers = subst (λ (w : Written). AgreesWith (all_of w) w.numbers) (sym c.in-Ok.ensures.log) c.requires.bound.numbers;
      tied = c.in-Ok.ensures.tied;
      told = told_there c.args.self.now.dispatchers.items old c.acknowledge.new.self c.at-view.result.parts.now (with_acknowledged (state_of old) name (q ∷ [])) c.args.place (Gone c.args.index) sub (acknowledging (q ∷ []) sub) c.at-view.result.subscription.now c.index_mut.result.now c.on_gone.new.self
          c.requires.bound.told happens c.in-Ok.ensures.ok c.at-view.ensures.parts c.at-view.ensures.subscription c.index_mut.ensures.value c.on_gone.ensures;
    }
