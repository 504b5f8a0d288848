use Rattle.std.proofs.Common.{Some, ap, ◌∙◌, subst, sym}
use Rattle.std.specs.FinMap as map_of
use Rattle.delivery_machine.specs.Delivering.{holding}
use Rattle.topic_subscriptions.specs.Placed.{IsPlacedIn, Placed, due_again_at, sub_in}
use Rattle.topic_subscriptions.proofs.Changes.{due_again_in, due_again_placed}
use Rattle.topic_parts.specs.Parts.{log_of}
use Rattle.topic_parts.proofs.Held.{changes, holder_is, it, tied_again, tied_one}
use Rattle.topic_parts.proofs.parts.Parts.set_due.Goals as goal

pub returns-clause-changes : goal.returns-clause-changes
returns-clause-changes c consumer held =
    let t = c.args.self.now in
    let q = c.args.position in
    let x = c.index_mut.result.now in
    let h = holder_is consumer (map_of.get x.pending.pending q) (held x (it t c.args.place c.requires.within x c.index_mut.ensures.value)) in
    changes t c.args.place c.requires.within x c.index_mut.ensures.value (due_again_at q c.args.due) (holding q (record { consumer = consumer; due = Some c.args.due })) c.set_due.new.self c.set_due.ensures
    (due_again_in (log_of t) x q c.args.due h.0 h.1 ∙ ap (λ n. holding q (record { consumer = n; due = Some c.args.due }) (sub_in (log_of t) x)) h.2)

pub returns-clause-tied : goal.returns-clause-tied
returns-clause-tied c =
    let t = c.args.self.now in
    let x = c.index_mut.result.now in
    tied_again t c.args.place c.requires.within x c.index_mut.ensures.value c.set_due.new.self c.requires.tied
    (subst (λ (p : Placed). IsPlacedIn (log_of t) t.members.members p) (sym c.set_due.ensures)
    (due_again_placed (log_of t) t.members.members x c.args.position c.args.due (tied_one t c.args.place c.requires.within x c.index_mut.ensures.value c.requires.tied)))
