use Rattle.std.proofs.Common.{◌∙◌, List, Some, ap, refl, sym, subst, subst₂}
use Rattle.std.proofs.lemmas.Option.{slice_get-get_or}
use Rattle.dispatch_core.specs.Changes.{Joined}
use Rattle.delivery_machine.specs.State.{State}
use Rattle.dedup_core.specs.Sequences.{AgreesWith}
use Rattle.topic_served.specs.Told.{AreTold}
use Rattle.topic_served.specs.declared.dispatch.Dispatch.{Dispatch}
use Rattle.topic_served.proofs.Asking.{asks_for_free}
use Rattle.topic_log.specs.Written.{all_of, Written}
use Rattle.topic_members.specs.Members.{joining}
use Rattle.topic_subscriptions.specs.Placed.{is_placed, sub_in}
use Rattle.delivery_machine.specs.Joining as machine
use Rattle.topic_parts.specs.declared.parts.Parts.{Parts}
use Rattle.topic_parts.specs.Parts.{log_of, state_of}
use Rattle.topic_parts.proofs.Changing.{written_back}
use Rattle.topic_served.proofs.Telling.{are_told_within, at_place, one_stands, told_there}
use Rattle.member_events.specs.Entering.{entered}
use Rattle.member_events.specs.Places.{names_of}
use Rattle.member_events.proofs.Entered.{happens_entered, same_state, same_ties}
use Rattle.member_events.proofs.Standing.{same_place}
use Rattle.member_events.proofs.entering.enter.Goals as goal

pub let_in-entered-requires-clause-untaken : goal.let_in-entered-requires-clause-untaken
let_in-entered-requires-clause-untaken c =
    let t = c.args.served.now.parts in
    let ds = c.args.served.now.dispatchers.items in
    let place = c.args.place in
    let x = one_stands (is_placed c.args.name) t.subscriptions.items place c.requires.may.named in
    let d = c.index_mut.result.now in
    let there = slice_get-get_or ds place d (are_told_within ds t c.args.name place c.requires.bound.told c.requires.may.named) ∙ ap (λ (e : Dispatch). Some e) (sym c.index_mut.ensures.value) in
    asks_for_free d (state_of t) (sub_in (log_of t) x.0) c.args.ranges.now (c.requires.bound.told.each place d (sub_in (log_of t) x.0) there (at_place t place x.0 x.1)) (c.requires.free x.0 x.1).0

pub returns-in-Ok-clause-ok : goal.returns-in-Ok-clause-ok
returns-in-Ok-clause-ok c = c.in-Ok.ensures.ok.state

pub returns-in-Ok-clause-names : goal.returns-in-Ok-clause-names
returns-in-Ok-clause-names c = c.in-Ok.ensures.ok.names

pub returns-in-Ok-clause-bound : goal.returns-in-Ok-clause-bound
returns-in-Ok-clause-bound c =
    let t = c.args.served.now.parts in
    let new = c.let_in-entered.new.parts in
    let m = joining t.members.next c.args.name c.args.terms c.args.dead_topic in
    let x = one_stands (is_placed c.args.name) t.subscriptions.items c.args.place c.requires.may.named in
    let v = one_stands (is_placed c.args.name) new.subscriptions.items c.args.place (c.requires.may.named ∙ sym (same_place t.subscriptions.items new.subscriptions.items c.args.name c.in-Ok.ensures.ok.names)) in
    record {
      numbers = subst (λ (w : Written). AgreesWith (all_of w) w.numbers) (sym c.in-Ok.ensures.ok.log) c.requires.bound.numbers;
      tied = c.in-Ok.ensures.ok.tied;
      told = told_there c.args.served.now.dispatchers.items t new new (entered (state_of t) c.args.ranges.now m) c.args.place (Joined c.args.ranges.now m.number) (sub_in (log_of t) x.0) (machine.joining x.0.kind c.args.ranges.now m.number (sub_in (log_of t) x.0)) v.0 c.index_mut.result.now c.let_in-entered.new.dispatch
          c.requires.bound.told (happens_entered t c.args.place m c.args.ranges.now x.0 c.requires.may refl x.2) c.in-Ok.ensures.ok.state refl v.1 c.index_mut.ensures.value (c.in-Ok.ensures.ok.told v.0 v.1);
    }

pub returns-in-Err-clause-names : goal.returns-in-Err-clause-names
returns-in-Err-clause-names c = ap names_of c.in-Err.ensures.stays.items

pub returns-in-Err-clause-same : goal.returns-in-Err-clause-same
returns-in-Err-clause-same c = same_state c.args.served.now.parts c.let_in-entered.new.parts c.in-Err.ensures.stays

pub returns-in-Err-clause-bound : goal.returns-in-Err-clause-bound
returns-in-Err-clause-bound c =
    let t = c.args.served.now.parts in
    let new = c.let_in-entered.new.parts in
    record {
      numbers = subst (λ (w : Written). AgreesWith (all_of w) w.numbers) (sym (ap (λ (p : Parts). p.log) c.in-Err.ensures.stays.rest)) c.requires.bound.numbers;
      tied = same_ties t new c.in-Err.ensures.stays c.requires.bound.tied;
      told = subst₂ (λ (ds : List Dispatch) (u : State). AreTold ds u)
          (sym (written_back c.args.served.now.dispatchers.items c.args.place c.index_mut.result.now c.let_in-entered.new.dispatch c.index_mut.ensures.value c.in-Err.ensures.untold))
          (sym (same_state t new c.in-Err.ensures.stays)) c.requires.bound.told;
    }
