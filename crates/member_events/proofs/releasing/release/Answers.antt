use Rattle.std.proofs.Common.{◌≡◌, ◌∙◌, List, Some, true, sym, ap, arith, refl, slice_get}
use Rattle.std.specs.FinMap as map_of
use Rattle.delivery_machine.specs.State.{Subscription}
use Rattle.dispatch_core.specs.Changes.{Released}
use Rattle.topic_served.specs.Stepping.{freed, freeing}
use Rattle.topic_served.proofs.Spots.{set_at}
use Rattle.topic_subscriptions.specs.Placed.{Placed, is_placed, sub_in}
use Rattle.topic_parts.specs.declared.parts.Parts.{Parts}
use Rattle.topic_parts.specs.Parts.{log_of, state_of}
use Rattle.topic_parts.proofs.Changing.{there_is}
use Rattle.topic_served.proofs.Telling.{place_within, told_there}
use Rattle.std.specs.Vec.{with_item}
use Rattle.member_events.proofs.Standing.{names_written}
use Rattle.member_events.proofs.Freed.{freed_there, number_is, one_fewer, released_there, tied_freed}
use Rattle.member_events.proofs.releasing.release.Goals as goal

pub at-view-requires-clause-tied : goal.at-view-requires-clause-tied
at-view-requires-clause-tied c =
    let t = c.args.served.now.parts in
    tied_freed (log_of t) t.subscriptions.items c.args.place c.args.position c.index_mut.result.now c.release.new.self c.index_mut.ensures.value c.release.ensures t.members.members c.requires.stands.name c.requires.stands.named c.requires.bound.tied

pub returns-clause-freed : goal.returns-clause-freed
returns-clause-freed c name named =
    let t = c.args.served.now.parts in
    ap (λ (subs : List Subscription). record (state_of t) { subscriptions = subs })
    (freed_there (log_of t) t.subscriptions.items c.args.place c.args.position c.index_mut.result.now c.release.new.self c.index_mut.ensures.value c.release.ensures name named)

pub returns-clause-kept : goal.returns-clause-kept
returns-clause-kept c = record {
  rest = refl;
  names = names_written c.args.served.now.parts.subscriptions.items c.args.place c.index_mut.result.now c.release.new.self c.index_mut.ensures.value (ap (λ (p : Placed). p.name) c.release.ensures);
}

pub returns-clause-fewer : goal.returns-clause-fewer
returns-clause-fewer c =
    let t = c.args.served.now.parts in
    let x = c.index_mut.result.now in
    let y = c.release.new.self in
    let new : Parts = record t { subscriptions = with_item t.subscriptions c.args.place y } in
    let low = place_within (is_placed c.requires.stands.name) t.subscriptions.items c.args.place c.requires.stands.named in
    let same = there_is t.subscriptions.items c.args.place x c.requires.pending.sub c.index_mut.ensures.value c.requires.pending.there in
    let key : map_of.contains_key x.pending.pending c.args.position ≡ true = ap (λ (p : Placed). map_of.contains_key p.pending.pending c.args.position) same ∙ c.requires.pending.pending in
    let after = number_is new c.args.place y (sym (set_at t.subscriptions.items c.args.place y low)) ∙ ap (λ (p : Placed). map_of.len p.pending.pending) c.release.ensures in
    let before = number_is t c.args.place x (ap (λ (p : Placed). Some p) same ∙ c.requires.pending.there) in
    omega (arith, after, before, one_fewer x.pending.pending c.args.position key)

pub returns-clause-bound : goal.returns-clause-bound
returns-clause-bound c =
    let t = c.args.served.now.parts in
    let place = c.args.place in
    let q = c.args.position in
    let name = c.requires.stands.name in
    let x = c.index_mut.result.now in
    let y = c.release.new.self in
    let new : Parts = record t { subscriptions = with_item t.subscriptions place y } in
    let same = there_is t.subscriptions.items place x c.requires.pending.sub c.index_mut.ensures.value c.requires.pending.there in
    let key : map_of.contains_key x.pending.pending q ≡ true = ap (λ (p : Placed). map_of.contains_key p.pending.pending q) same ∙ c.requires.pending.pending in
    let there : Some x ≡ slice_get t.subscriptions.items place = ap (λ (p : Placed). Some p) same ∙ c.requires.pending.there in
    let happens = released_there t place name x q c.in-Some.index c.len-length.ensures.rising c.requires.bound.tied c.requires.stands.named there c.index_mut.ensures.value key (sym c.in-Some.ensures) in
    let is : state_of new ≡ freed (state_of t) name q = ap (λ (subs : List Subscription). record (state_of t) { subscriptions = subs })
    (freed_there (log_of t) t.subscriptions.items place q x y c.index_mut.ensures.value c.release.ensures name c.requires.stands.named) in
    record {
      numbers = c.requires.bound.numbers;
      tied = tied_freed (log_of t) t.subscriptions.items place q x y c.index_mut.ensures.value c.release.ensures t.members.members name c.requires.stands.named c.requires.bound.tied;
      told = told_there c.args.served.now.dispatchers.items t new c.at-view.result.parts.now (freed (state_of t) name q) place (Released c.in-Some.index) (sub_in (log_of t) x) (freeing q (sub_in (log_of t) x)) c.at-view.result.subscription.now c.index_mut-2.result.now c.on_released.new.self
          c.requires.bound.told happens is c.at-view.ensures.parts c.at-view.ensures.subscription c.index_mut-2.ensures.value c.on_released.ensures;
    }
