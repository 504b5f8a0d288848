use Rattle.std.proofs.Common.{◌∙◌, ap, refl, set, sym, subst, subst₂, List}
use Rattle.std.proofs.lemmas.Option.{slice_get_within}
use Rattle.delivery_machine.specs.State.{State, Member}
use Rattle.delivery_machine.specs.Words.{changed, is_member, is_waiting, visible}
use Rattle.delivery_machine.specs.Delivering.{holding}
use Rattle.machine_laws.proofs.Ranks.{ranks_changed}
use Rattle.dedup_core.specs.Sequences.{AgreesWith}
use Rattle.dispatch_core.specs.Changes.{Sent}
use Rattle.dispatch_core.specs.declared.dispatcher.Offer.{Offer}
use Rattle.topic_served.specs.Told.{AreTold}
use Rattle.topic_served.specs.declared.dispatch.Dispatch.{Dispatch}
use Rattle.topic_served.proofs.Agreed.{told_kept}
use Rattle.topic_served.proofs.Offered.{offered_there, offered_waits}
use Rattle.topic_served.proofs.Quiet.{kept_members}
use Rattle.topic_served.proofs.Standing.{index_there}
use Rattle.topic_log.specs.Written.{all_of, Written}
use Rattle.topic_members.specs.Members.{spending}
use Rattle.topic_members.proofs.Given.{given_paid}
use Rattle.topic_subscriptions.specs.Placed.{is_placed, sub_in}
use Rattle.topic_parts.specs.Parts.{log_of, state_of}
use Rattle.topic_parts.specs.declared.parts.Parts.{Parts}
use Rattle.topic_parts.proofs.Changing.{written_back}
use Rattle.topic_served.proofs.Telling.{about, one_stands, told_there}
use Rattle.delivery_events.specs.Handing.{handed}
use Rattle.delivery_events.proofs.Handing.{sent_handed}
use Rattle.delivery_events.proofs.Offered.{live_offered, message_is, not_pending, undone}
use Rattle.delivery_events.proofs.dispatching.send.Goals as goal

pub hand-requires-clause-index : goal.hand-requires-clause-index
hand-requires-clause-index c = index_there (log_of c.args.served.now.parts) c.args.index c.args.delivery.message c.len-length.ensures.rising c.requires.message

pub hand-requires-clause-live : goal.hand-requires-clause-live
hand-requires-clause-live c p at =
    let offer : Offer = record { index = c.args.index; consumer = c.args.held.consumer } in
    live_offered c.args.served.now.parts c.args.place p offer c.requires.bound.tied at (c.requires.offered p at)

pub returns-in-Ok-on_sent-clause-ok : goal.returns-in-Ok-on_sent-clause-ok
returns-in-Ok-on_sent-clause-ok c =
    let s = state_of c.args.served.now.parts in
    let name = c.args.name.now in
    let n = c.args.held.consumer in
    c.spend.ensures.state
    ∙ ap (λ (x : State). record x { members = changed (is_member n) spending x.members }) (c.in-Ok.ensures.ok name c.requires.place)
    ∙ ap (λ (ms : List Member). record (handed s name c.args.delivery c.args.held) { members = ms }) (given_paid n c.args.delivery s.members)

pub returns-in-Ok-on_sent-clause-bound : goal.returns-in-Ok-on_sent-clause-bound
returns-in-Ok-on_sent-clause-bound c =
    let t = c.args.served.now.parts in
    let s = state_of t in
    let ds = c.args.served.now.dispatchers.items in
    let name = c.args.name.now in
    let place = c.args.place in
    let d = c.args.delivery in
    let h = c.args.held in
    let offer : Offer = record { index = c.args.index; consumer = h.consumer } in
    let x = one_stands (is_placed name) t.subscriptions.items place c.requires.place in
    let sub = sub_in (log_of t) x.0 in
    let good = c.requires.offered x.0 (sym x.1) in
    let same = message_is good.message d.message _ (offered_there s sub offer good) c.requires.message in
    let seen = index_there (log_of t) c.args.index d.message c.len-length.ensures.rising c.requires.message in
    let happens = sent_handed s name place sub d h c.args.index (about t name place x.0 d.message.position c.args.index c.len-length.ensures.rising c.requires.place x.1 seen)
    (slice_get_within (visible s) c.args.index good.message good.found) (ap (is_waiting sub) (sym same) ∙ offered_waits s sub offer good) in
    let u = state_of c.hand.new.parts in
    let told = told_there ds t c.hand.new.parts c.at-view.result.parts.now (handed s name d h) place (Sent c.args.index h.consumer) sub (holding d.message.position h sub) c.at-view.result.subscription.now c.index_mut.result.now c.on_sent.new.self
    c.requires.bound.told happens (c.in-Ok.ensures.ok name c.requires.place) c.at-view.ensures.parts c.at-view.ensures.subscription c.index_mut.ensures.value c.in-Ok-on_sent.ensures.ok in
    record {
      numbers = subst (λ (w : Written). AgreesWith (all_of w) w.numbers) (sym (ap (λ (p : Parts). p.log) c.spend.ensures.rest ∙ c.in-Ok.ensures.log)) c.requires.bound.numbers;
      tied = c.spend.ensures.tied;
      told = subst (λ (y : State). AreTold (set ds place c.on_sent.new.self) y) (sym c.spend.ensures.state)
          (told_kept (set ds place c.on_sent.new.self) u (record u { members = changed (is_member h.consumer) spending u.members }) told
          (kept_members u (changed (is_member h.consumer) spending u.members) (ranks_changed (is_member h.consumer) spending (λ _. refl) u.members)));
    }

pub returns-in-Err-on_sent-clause-err : goal.returns-in-Err-on_sent-clause-err
returns-in-Err-on_sent-clause-err c =
    let t = c.args.served.now.parts in
    let offer : Offer = record { index = c.args.index; consumer = c.args.held.consumer } in
    let name = c.args.name.now in
    let x = one_stands (is_placed name) t.subscriptions.items c.args.place c.requires.place in
    let sub = sub_in (log_of t) x.0 in
    let good = c.requires.offered x.0 (sym x.1) in
    let same = message_is good.message c.args.delivery.message _ (offered_there (state_of t) sub offer good) c.requires.message in
    undone t c.hand.new.parts c.hand_back.new.parts name c.args.place x.0 c.args.delivery c.args.held c.position-position.result c.requires.place x.1
    (not_pending (state_of t) sub c.args.delivery.message (ap (is_waiting sub) (sym same) ∙ offered_waits (state_of t) sub offer good))
    c.position-position.ensures (c.in-Ok.ensures.ok name c.requires.place) (c.hand_back.ensures.state name)

pub returns-in-Err-on_sent-clause-bound : goal.returns-in-Err-on_sent-clause-bound
returns-in-Err-on_sent-clause-bound c =
    let t = c.args.served.now.parts in
    let offer : Offer = record { index = c.args.index; consumer = c.args.held.consumer } in
    let ds = c.args.served.now.dispatchers.items in
    let name = c.args.name.now in
    let x = one_stands (is_placed name) t.subscriptions.items c.args.place c.requires.place in
    let sub = sub_in (log_of t) x.0 in
    let good = c.requires.offered x.0 (sym x.1) in
    let same = message_is good.message c.args.delivery.message _ (offered_there (state_of t) sub offer good) c.requires.message in
    let back = undone t c.hand.new.parts c.hand_back.new.parts name c.args.place x.0 c.args.delivery c.args.held c.position-position.result c.requires.place x.1
    (not_pending (state_of t) sub c.args.delivery.message (ap (is_waiting sub) (sym same) ∙ offered_waits (state_of t) sub offer good))
    c.position-position.ensures (c.in-Ok.ensures.ok name c.requires.place) (c.hand_back.ensures.state name) in
    record {
      numbers = subst (λ (w : Written). AgreesWith (all_of w) w.numbers) (sym (c.hand_back.ensures.log ∙ c.in-Ok.ensures.log)) c.requires.bound.numbers;
      tied = c.hand_back.ensures.tied;
      told = subst₂ (λ (xs : List Dispatch) (y : State). AreTold xs y) (sym (written_back ds c.args.place c.index_mut.result.now c.on_sent.new.self c.index_mut.ensures.value c.in-Err-on_sent.ensures.unchanged)) (sym back) c.requires.bound.told;
    }
