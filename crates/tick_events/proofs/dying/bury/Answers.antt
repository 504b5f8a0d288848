use Rattle.std.proofs.Common.{◌∙◌, ap, subst, sym, arith}
use Rattle.std.proofs.lemmas.Option.{get_or_from_slice_get}
use Rattle.dedup_core.specs.Sequences.{AgreesWith}
use Rattle.log_pieces.specs.Pieces.{index_of}
use Rattle.delivery_machine.specs.State.{DeadLetter}
use Rattle.delivery_machine.specs.Dying.{burying}
use Rattle.dispatch_core.specs.Changes.{Gone}
use Rattle.topic_log.specs.Written.{all_of, Written}
use Rattle.topic_subscriptions.specs.Placed.{is_placed, sub_in}
use Rattle.topic_parts.specs.Holding.{buried}
use Rattle.topic_parts.specs.Parts.{log_of, state_of}
use Rattle.topic_served.proofs.Telling.{one_stands, place_within, told_there}
use Rattle.tick_events.proofs.Held.{happens_buried, is_live, stands_somewhere}
use Rattle.tick_events.proofs.dying.bury.Goals as goal

pub unreachable-requires : goal.unreachable-requires
unreachable-requires c =
    let t = c.args.served.now.parts in
    let name = c.args.name.now in
    let x = one_stands (is_placed name) t.subscriptions.items c.args.place c.requires.place in
    stands_somewhere t name c.args.place x.0 c.args.letter.position c.requires.place x.2 (c.requires.pending x.0 (sym x.1)) c.requires.bound.tied (c.in_default.ensures ∙ ap (λ (l : DeadLetter). index_of l.position (log_of t)) c.letter.view_is)

pub bury-requires-clause-within : goal.bury-requires-clause-within
bury-requires-clause-within c = place_within (is_placed c.args.name.now) c.args.served.now.parts.subscriptions.items c.args.place c.requires.place

pub bury-requires-clause-live : goal.bury-requires-clause-live
bury-requires-clause-live c p at =
    let t = c.args.served.now.parts in
    let name = c.args.name.now in
    is_live t name c.args.place p c.args.letter.position c.requires.place (sym (get_or_from_slice_get t.subscriptions.items c.args.place p p at)) (c.requires.pending p at) c.requires.bound.tied c.in-Some.index (sym (c.in-Some.ensures ∙ ap (λ (l : DeadLetter). index_of l.position (log_of t)) c.letter.view_is))

pub at-view-requires-clause-within : goal.at-view-requires-clause-within
at-view-requires-clause-within c = omega (arith, c.in-Ok.ensures.many, place_within (is_placed c.args.name.now) c.args.served.now.parts.subscriptions.items c.args.place c.requires.place)

pub returns-in-Ok-clause-ok : goal.returns-in-Ok-clause-ok
returns-in-Ok-clause-ok c = c.in-Ok.ensures.ok c.args.name.now c.requires.place

pub returns-in-Ok-clause-bound : goal.returns-in-Ok-clause-bound
returns-in-Ok-clause-bound c =
    let old = c.args.served.now.parts in
    let name = c.args.name.now in
    let place = c.args.place in
    let letter = c.args.letter in
    let x = one_stands (is_placed name) old.subscriptions.items place c.requires.place in
    let sub = sub_in (log_of old) x.0 in
    let happens = happens_buried old name place x.0 letter c.in-Some.index c.requires.place c.len-length.ensures.rising x.1 (sym (c.in-Some.ensures ∙ ap (λ (l : DeadLetter). index_of l.position (log_of old)) c.letter.view_is)) in
    record {
      numbers = subst (λ (w : Written). AgreesWith (all_of w) w.numbers) (sym c.in-Ok.ensures.log) c.requires.bound.numbers;
      tied = c.in-Ok.ensures.tied;
      told = told_there c.args.served.now.dispatchers.items old c.bury.new.self c.at-view.result.parts.now (buried (state_of old) name letter) place (Gone c.in-Some.index) sub (burying letter sub) c.at-view.result.subscription.now c.index_mut.result.now c.on_gone.new.self
          c.requires.bound.told happens (c.in-Ok.ensures.ok name c.requires.place) c.at-view.ensures.parts c.at-view.ensures.subscription c.index_mut.ensures.value c.on_gone.ensures;
    }

pub returns-in-Err-clause-err : goal.returns-in-Err-clause-err
returns-in-Err-clause-err c = ap state_of c.in-Err.ensures.err
