use Rattle.std.proofs.Common.{[], ◌∷◌, ◌∙◌, ap, subst, sym}
use Rattle.delivery_machine.specs.Ticking.{redelivering}
use Rattle.topic_subscriptions.specs.Placed.{IsPlacedIn, Placed, sub_in}
use Rattle.topic_subscriptions.proofs.Changes.{redelivered_in, redelivered_placed}
use Rattle.topic_parts.specs.Parts.{log_of}
use Rattle.topic_parts.proofs.Held.{it, tied_one}
use Rattle.topic_parts.proofs.Leaves.{left_state, left_tied}
use Rattle.topic_parts.proofs.parts.Parts.redeliver.Goals as goal

pub returns-clause-state : goal.returns-clause-state
returns-clause-state c name there =
    let t = c.args.self.now in
    let x = c.index_mut.result.now in
    let pending = c.requires.pending x (it t c.args.place c.requires.within x c.index_mut.ensures.value) in
    left_state t c.leave_out_of.new.self c.args.place x c.redeliver.new.self c.args.position c.holder-holder.result c.index_mut.ensures.value c.leave_out_of.ensures.members c.leave_out_of.ensures.next c.leave_out_of.ensures.rest
    name (redelivering (c.args.position ∷ [])) c.index.result.now there c.requires.well c.len-members.ensures.rising c.index.ensures c.holder-holder.ensures
    (ap (sub_in (log_of t)) c.redeliver.ensures ∙ redelivered_in (log_of t) x c.args.position pending)

pub returns-clause-tied : goal.returns-clause-tied
returns-clause-tied c =
    let t = c.args.self.now in
    let x = c.index_mut.result.now in
    let pending = c.requires.pending x (it t c.args.place c.requires.within x c.index_mut.ensures.value) in
    left_tied t c.leave_out_of.new.self c.args.place x c.redeliver.new.self c.args.position c.holder-holder.result c.index_mut.ensures.value c.leave_out_of.ensures.members c.leave_out_of.ensures.next c.leave_out_of.ensures.rest
    c.requires.tied
    (subst (λ (p : Placed). IsPlacedIn (log_of t) t.members.members p) (sym c.redeliver.ensures)
    (redelivered_placed (log_of t) t.members.members x c.args.position pending (tied_one t c.args.place c.requires.within x c.index_mut.ensures.value c.requires.tied)))
