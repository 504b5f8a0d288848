use Rattle.std.proofs.Common.{ap, sym, ◌∙◌}
use Rattle.topic_subscriptions.specs.Done.{done_by}
use Rattle.topic_subscriptions.specs.Placed.{Placed, sub_in}
use Rattle.topic_subscriptions.proofs.Done.{done_until_dead, done_until_open}
use Rattle.topic_parts.specs.Parts.{log_of}
use Rattle.topic_parts.proofs.Held.{one, tied_one}
use Rattle.topic_parts.proofs.Sought.{formed_at, nowhere}
use Rattle.topic_parts.proofs.Gone.{dead_has}
use Rattle.topic_parts.proofs.parts.Parts.done_at.Goals as goal

pub returns-in-None : goal.returns-in-None
returns-in-None c =
    let t = c.args.self.now in
    let x = c.index-subscription.result.now in
    λ p there. sym (ap (λ (y : Placed). done_by (sub_in (log_of t) y) (log_of t)) (one t c.args.place c.requires.within x c.index-subscription.ensures p there)
    ∙ done_until_open (log_of t) t.members.members x c.mark_delete_end-open.result c.len-length.ensures.rising (tied_one t c.args.place c.requires.within x c.index-subscription.ensures c.requires.tied) c.mark_delete_end-open.ensures c.in-None.ensures.none)

pub returns-in-None-index_of : goal.returns-in-None-index_of
returns-in-None-index_of c =
    let t = c.args.self.now in
    let x = c.index-subscription.result.now in
    absurd (nowhere (log_of t) c.in-Some.position
    (dead_has (log_of t) x.letters.dead c.in-Some.position (formed_at t c.args.place x c.requires.well c.requires.within c.index-subscription.ensures).dead.messages c.in-Some.ensures.there)
    c.in-None-index_of.ensures)

pub returns-in-Some-index_of : goal.returns-in-Some-index_of
returns-in-Some-index_of c =
    let t = c.args.self.now in
    let x = c.index-subscription.result.now in
    λ p there. c.min.ensures
    ∙ sym (ap (λ (y : Placed). done_by (sub_in (log_of t) y) (log_of t)) (one t c.args.place c.requires.within x c.index-subscription.ensures p there)
    ∙ done_until_dead (log_of t) t.members.members x c.mark_delete_end-open.result c.len-length.ensures.rising (tied_one t c.args.place c.requires.within x c.index-subscription.ensures c.requires.tied) c.mark_delete_end-open.ensures c.in-Some-index_of.index c.in-Some.position (sym c.in-Some-index_of.ensures) c.in-Some.ensures.there c.in-Some.ensures.least)
