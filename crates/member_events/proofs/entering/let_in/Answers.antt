use Rattle.std.proofs.Common.{◌≡◌, ◌∙◌, ℕ, List, Option, Some, All, refl, ap, ap₂, get_or, set, sym, subst}
use Rattle.std.specs.List.{list_any, position}
use Rattle.position_core.specs.declared.ranges.HashRange.{HashRange}
use Rattle.position_core.specs.declared.kind.Kind.{Kind}
use Rattle.delivery_machine.specs.State.{Member}
use Rattle.delivery_machine.specs.Shares.{asks_taken, is_share_of}
use Rattle.dispatch_core.specs.Changes.{AgreesAfter, Joined}
use Rattle.topic_served.specs.Agreeing.{agrees}
use Rattle.topic_members.specs.Members.{joining}
use Rattle.topic_subscriptions.specs.Placed.{IsPlacedIn, Placed, is_placed, joined_by, sub_in}
use Rattle.topic_parts.specs.declared.parts.Parts.{Parts}
use Rattle.topic_parts.specs.Parts.{log_of, state_of}
use Rattle.topic_parts.proofs.Changing.{read_twice}
use Rattle.topic_served.proofs.Telling.{place_within}
use Rattle.member_events.proofs.Entered.{lets_in, read_back, stays_as, tied_entered}
use Rattle.member_events.proofs.Standing.{one_there}
use Rattle.member_events.proofs.entering.let_in.Goals as goal

-- what the consumer joined
joined : (t : Parts) (place : ℕ) (name : List ℕ) (x w y : Placed) (kind : Kind) (ranges : Option (List HashRange)) (consumer : ℕ) → Some place ≡ position (is_placed name) t.subscriptions.items → x ≡ get_or t.subscriptions.items place x → w ≡ get_or t.subscriptions.items place w
    → kind ≡ w.kind → consumer ≡ t.members.next → y ≡ joined_by kind ranges consumer x → y ≡ joined_by x.kind ranges t.members.next x
joined t place name x w y kind ranges consumer named at_x at_w kind_is number is =
    is ∙ ap₂ (λ (k : Kind) (n : ℕ). joined_by k ranges n x) (kind_is ∙ ap (λ (p : Placed). p.kind) (read_twice (log_of t) t.subscriptions.items name place named w x at_w at_x)) number

pub join-requires : goal.join-requires
join-requires c =
    let t = c.args.parts.now in
    let x = c.index_mut.result.now in
    let kind_is = c.kind-kind.ensures ∙ ap (λ (p : Placed). p.kind) (read_twice (log_of t) t.subscriptions.items c.args.name c.args.place c.requires.may.named c.index.result.now x c.index.ensures c.index_mut.ensures.value) in
    let well = c.requires.free x (one_there t.subscriptions.items c.args.name c.args.place x c.requires.may.named c.index_mut.ensures.value) in
    record { free = ap (λ (k : Kind). asks_taken k c.args.ranges.now x.shares) kind_is ∙ well.0 }

pub at-view-requires-clause-tied : goal.at-view-requires-clause-tied
at-view-requires-clause-tied c =
    let t = c.args.parts.now in
    let x = c.index_mut.result.now in
    let m = joining t.members.next c.args.name c.args.terms c.args.dead_topic in
    let is = joined t c.args.place c.args.name x c.index.result.now c.join.new.self c.kind-kind.result c.args.ranges.now c.next-consumer.result c.requires.may.named c.index_mut.ensures.value c.index.ensures c.kind-kind.ensures c.next-consumer.ensures.value c.in-Ok.ensures.ok in
    subst (λ (ms : List Member). All (IsPlacedIn (log_of t) ms) (set t.subscriptions.items c.args.place c.join.new.self)) (sym c.add_reserved.ensures.members)
    (tied_entered t c.args.place m c.args.ranges.now x c.requires.may refl c.index_mut.ensures.value c.join.new.self is)

pub returns-in-Ok-told-clause-ok : goal.returns-in-Ok-told-clause-ok
returns-in-Ok-told-clause-ok c =
    let t = c.args.parts.now in
    let x = c.index_mut.result.now in
    let m = joining t.members.next c.args.name c.args.terms c.args.dead_topic in
    let is = joined t c.args.place c.args.name x c.index.result.now c.join.new.self c.kind-kind.result c.args.ranges.now c.next-consumer.result c.requires.may.named c.index_mut.ensures.value c.index.ensures c.kind-kind.ensures c.next-consumer.ensures.value c.in-Ok.ensures.ok in
    lets_in t c.at-view.result.parts.now c.args.place m c.args.ranges.now x c.join.new.self c.at-view.result.subscription.now c.add_reserved.new.self c.args.dispatch.now c.on_join-told.new.self c.requires.may refl c.index_mut.ensures.value is
    c.add_reserved.ensures.members c.add_reserved.ensures.next c.at-view.ensures.parts c.at-view.ensures.subscription
    (subst (λ (n : ℕ). AgreesAfter (Joined c.args.ranges.now n) (agrees c.args.dispatch.now) (agrees c.on_join-told.new.self) (state_of c.at-view.result.parts.now) (sub_in (log_of c.at-view.result.parts.now) c.at-view.result.subscription.now)) c.next-consumer.ensures.value c.in-Ok-told.ensures.ok)

pub returns-in-Err-clause-stays : goal.returns-in-Err-clause-stays
returns-in-Err-clause-stays c =
    let t = c.args.parts.now in
    let x = c.index_mut.result.now in
    let low = place_within (is_placed c.args.name) t.subscriptions.items c.args.place c.requires.may.named in
    let w = c.index_mut-in-Err.result.now in
    let kind_is = c.kind-kind.ensures ∙ ap (λ (p : Placed). p.kind) (read_twice (log_of t) t.subscriptions.items c.args.name c.args.place c.requires.may.named c.index.result.now x c.index.ensures c.index_mut.ensures.value) in
    let unshared = c.requires.may.unshared x (one_there t.subscriptions.items c.args.name c.args.place x c.requires.may.named c.index_mut.ensures.value) in
    let well = c.requires.free x (one_there t.subscriptions.items c.args.name c.args.place x c.requires.may.named c.index_mut.ensures.value) in
    let back = c.undo_join.ensures c.kind-kind.result c.args.ranges.now x (read_back t.subscriptions.items c.args.place c.join.new.self w low c.index_mut-in-Err.ensures.value ∙ c.in-Ok.ensures.ok) (sym kind_is) well.1
    (ap (λ (n : ℕ). list_any (is_share_of n) x.shares.blocks) c.next-consumer.ensures.value ∙ unshared) in
    let taken = c.take_last.ensures t.members.members (joining t.members.next c.args.name c.args.terms c.args.dead_topic) c.add_reserved.ensures.members in
    stays_as t c.args.place x c.join.new.self c.undo_join.new.self c.take_last.new.self low c.index_mut.ensures.value back taken.0 taken.1

pub on_join-told-requires : goal.on_join-told-requires
on_join-told-requires c = record { free = c.requires.untaken }
