use Rattle.std.proofs.Common.{◌≡◌, ◌∙◌, ℕ, List, Some, All, ap, ap₂, set, sym, subst, map}
use Rattle.std.specs.List.{find, position}
use Rattle.std.specs.Vec.{with_item}
use Rattle.delivery_machine.specs.State.{Member, Subscription}
use Rattle.delivery_machine.specs.Words.{is_member}
use Rattle.delivery_machine.specs.Joining.{leaving, without_member}
use Rattle.dispatch_core.specs.Changes.{Left}
use Rattle.topic_subscriptions.specs.Placed.{IsPlacedIn, Placed, is_placed, sub_in}
use Rattle.topic_parts.specs.declared.parts.Parts.{Parts}
use Rattle.topic_parts.specs.Parts.{log_of, state_of}
use Rattle.topic_served.proofs.Telling.{told_there}
use Rattle.member_events.proofs.Left.{happens_left, subs_left, tied_left}
use Rattle.member_events.proofs.Standing.{its_name, names_written, one_of, one_there}
use Rattle.member_events.proofs.leaving.let_go.Goals as goal

pub at-view-requires-clause-tied : goal.at-view-requires-clause-tied
at-view-requires-clause-tied c =
    let t = c.args.served.now.parts in
    let m = one_of (λ (m : Member). Some c.args.place ≡ position (is_placed m.subscription) t.subscriptions.items) (find (is_member c.args.consumer) t.members.members) c.requires.member in
    subst (λ (ms : List Member). All (IsPlacedIn (log_of t) ms) (set t.subscriptions.items c.args.place c.leave.new.self)) (sym c.remove.ensures.members)
    (tied_left t c.args.place c.args.consumer m.0 c.index_mut.result.now c.leave.new.self c.requires.ordered c.len-many.ensures.rising m.2 c.index_mut.ensures.value c.leave.ensures m.1 c.requires.bound.tied)

pub returns-clause-left : goal.returns-clause-left
returns-clause-left c name named =
    let t = c.args.served.now.parts in
    let s = state_of t in
    let x = c.index_mut.result.now in
    let m = one_of (λ (m : Member). Some c.args.place ≡ position (is_placed m.subscription) t.subscriptions.items) (find (is_member c.args.consumer) t.members.members) c.requires.member in
    let idle = c.requires.idle x (one_there t.subscriptions.items m.0.subscription c.args.place x m.2 c.index_mut.ensures.value) in
    let same : m.0.subscription ≡ name =
    sym (its_name t.subscriptions.items m.0.subscription c.args.place x m.2 c.index_mut.ensures.value)
    ∙ its_name t.subscriptions.items name c.args.place x named c.index_mut.ensures.value in
    ap₂ (λ (ms : List Member) (n : ℕ). record s { members = ms; next_consumer = n; subscriptions = map (sub_in (log_of t)) (set t.subscriptions.items c.args.place c.leave.new.self) }) c.remove.ensures.members c.remove.ensures.next
    ∙ ap (λ (subs : List Subscription). record (without_member s c.args.consumer m.0.subscription) { subscriptions = subs })
    (subs_left t c.args.place c.args.consumer m.0 x c.leave.new.self c.requires.ordered c.len-many.ensures.rising m.2 c.index_mut.ensures.value c.leave.ensures m.1 idle)
    ∙ ap (λ (n : List ℕ). without_member s c.args.consumer n) same

pub returns-clause-bound : goal.returns-clause-bound
returns-clause-bound c =
    let t = c.args.served.now.parts in
    let s = state_of t in
    let place = c.args.place in
    let x = c.index_mut.result.now in
    let y = c.leave.new.self in
    let new : Parts = record t { members = c.remove.new.self; subscriptions = with_item t.subscriptions place y } in
    let m = one_of (λ (m : Member). Some place ≡ position (is_placed m.subscription) t.subscriptions.items) (find (is_member c.args.consumer) t.members.members) c.requires.member in
    let idle = c.requires.idle x (one_there t.subscriptions.items m.0.subscription place x m.2 c.index_mut.ensures.value) in
    let happens = happens_left t place c.args.consumer m.0 x y c.requires.ordered c.len-many.ensures.rising m.2 c.index_mut.ensures.value c.leave.ensures m.1 idle in
    let is : state_of new ≡ without_member s c.args.consumer m.0.subscription =
    ap₂ (λ (ms : List Member) (n : ℕ). record s { members = ms; next_consumer = n; subscriptions = map (sub_in (log_of t)) (set t.subscriptions.items place y) }) c.remove.ensures.members c.remove.ensures.next
    ∙ ap (λ (subs : List Subscription). record (without_member s c.args.consumer m.0.subscription) { subscriptions = subs })
    (subs_left t place c.args.consumer m.0 x y c.requires.ordered c.len-many.ensures.rising m.2 c.index_mut.ensures.value c.leave.ensures m.1 idle) in
    record {
      numbers = c.requires.bound.numbers;
      tied = subst (λ (ms : List Member). All (IsPlacedIn (log_of t) ms) (set t.subscriptions.items place y)) (sym c.remove.ensures.members)
          (tied_left t place c.args.consumer m.0 x y c.requires.ordered c.len-many.ensures.rising m.2 c.index_mut.ensures.value c.leave.ensures m.1 c.requires.bound.tied);
      told = told_there c.args.served.now.dispatchers.items t new c.at-view.result.parts.now (without_member s c.args.consumer m.0.subscription) place (Left c.args.consumer) (sub_in (log_of t) x) (leaving c.args.consumer (sub_in (log_of t) x)) c.at-view.result.subscription.now c.index_mut-2.result.now c.on_leave.new.self
          c.requires.bound.told happens is c.at-view.ensures.parts c.at-view.ensures.subscription c.index_mut-2.ensures.value c.on_leave.ensures;
    }

pub returns-clause-names : goal.returns-clause-names
returns-clause-names c = names_written c.args.served.now.parts.subscriptions.items c.args.place c.index_mut.result.now c.leave.new.self c.index_mut.ensures.value (ap (λ (p : Placed). p.name) c.leave.ensures)
