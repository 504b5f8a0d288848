use Rattle.std.proofs.Common.{◌≡◌, ◌+◌, ◌∙◌, true, sym, ap, ap₂, All, List, map, ℕ, Option, [], ◌∷◌, subst, set}
use Rattle.std.specs.Option.{option_map}
use Rattle.std.specs.Prelude.{Vec}
use Rattle.std.specs.FinMap as map_of
use Rattle.position_core.specs.declared.held.Held.{Held}
use Rattle.delivery_machine.specs.State.{Member, Subscription}
use Rattle.delivery_machine.specs.Acknowledging.{acknowledging}
use Rattle.topic_subscriptions.specs.Placed.{IsPlacedIn, Placed, is_live_at, sub_in}
use Rattle.topic_parts.specs.Leaving.{left_out_of}
use Rattle.topic_parts.specs.Parts.{AreTied, log_of, state_of}
use Rattle.topic_parts.specs.declared.parts.Parts.{Parts}
use Rattle.topic_parts.proofs.Acknowledged.{acknowledged_of, left_out_is, line_left_out, placed_beside, placed_of}
use Rattle.topic_parts.proofs.Changing.{changed_sub, named_sub, placed_there, read_twice, there_is, tied_at, with_same, written_back}
use Rattle.topic_parts.proofs.parts.Parts.acknowledge.Goals as goal

pub returns-in-Ok-clause-ok : goal.returns-in-Ok-clause-ok
returns-in-Ok-clause-ok c =
    let t = c.args.self.now in
    let q = c.args.position in
    let log = log_of t in
    let subs = t.subscriptions.items in
    let x = c.index_mut.result.now in
    let holder_is = c.holder-holder.ensures ∙ ap (λ (p : Placed). option_map (λ (h : Held). h.consumer) (map_of.get p.pending.pending q)) (read_twice log subs c.args.name.now c.args.place c.requires.place c.index.result.now x c.index.ensures c.index_mut.ensures.value) in
    let subs_is = changed_sub log subs c.args.name.now c.args.place c.requires.place (acknowledging (q ∷ [])) x c.acknowledge.new.self c.index_mut.ensures.value
    (ap (sub_in log) c.in-Ok.ensures.ok ∙ acknowledged_of log c.args.index q x c.len-length.ensures.rising c.requires.index) in
    let members_is = ap (λ (o : Option ℕ). left_out_of o q t.members.members) holder_is
    ∙ left_out_is (state_of t) c.args.name.now (sub_in log x) q c.requires.well c.len-members.ensures.rising (named_sub log subs c.args.name.now c.args.place c.requires.place x c.index_mut.ensures.value) in
    ap state_of c.leave_out_of.ensures.rest
    ∙ ap₂ (λ (ms : List Member) (n : ℕ). record (state_of t) { subscriptions = map (sub_in log) (set subs c.args.place c.acknowledge.new.self); members = ms; next_consumer = n }) c.leave_out_of.ensures.members c.leave_out_of.ensures.next
    ∙ ap₂ (λ (ss : List Subscription) (ms : List Member). record (state_of t) { subscriptions = ss; members = ms }) subs_is members_is

pub returns-in-Ok-clause-tied : goal.returns-in-Ok-clause-tied
returns-in-Ok-clause-tied c =
    let t = c.args.self.now in
    let q = c.args.position in
    let log = log_of t in
    let subs = t.subscriptions.items in
    let ms = t.members.members in
    let x = c.index_mut.result.now in
    let after = left_out_of c.holder-holder.result q ms in
    let lines = line_left_out c.holder-holder.result q ms in
    let new = subst (λ (p : Placed). IsPlacedIn log ms p) (sym c.in-Ok.ensures.ok)
    (placed_of log ms c.args.index q x c.len-length.ensures.rising c.requires.index (placed_there log subs c.args.name.now c.args.place c.requires.place ms x c.requires.tied c.index_mut.ensures.value)) in
    subst (λ (p : Parts). AreTied p) (sym c.leave_out_of.ensures.rest)
    (subst (λ (xs : List Member). All (IsPlacedIn log xs) (set subs c.args.place c.acknowledge.new.self)) (sym c.leave_out_of.ensures.members)
    (tied_at log ms after subs c.args.place c.acknowledge.new.self lines c.requires.tied
    (placed_beside log ms after c.acknowledge.new.self (lines c.acknowledge.new.self.name) new)))

pub returns-in-Err-clause-err : goal.returns-in-Err-clause-err
returns-in-Err-clause-err c =
    let t = c.args.self.now in
    ap (λ (subs : Vec Placed _). record t { subscriptions = subs })
    (with_same t.subscriptions c.args.place c.acknowledge.new.self
    (written_back t.subscriptions.items c.args.place c.index_mut.result.now c.acknowledge.new.self c.index_mut.ensures.value c.in-Err.ensures.err))

pub returns-in-Err-clause-gap : goal.returns-in-Err-clause-gap
returns-in-Err-clause-gap c p at =
    subst (λ (x : Placed). (k : ℕ) × (k + 1 ≡ c.args.index) × (is_live_at x k ≡ true))
    (there_is c.args.self.now.subscriptions.items c.args.place c.index_mut.result.now p c.index_mut.ensures.value at) c.in-Err.ensures.gap
