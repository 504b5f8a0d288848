use Rattle.std.proofs.Common.{arith, sym, ◌∙◌}
use Rattle.topic_subscriptions.specs.Placed.{sub_in}
use Rattle.topic_subscriptions.proofs.Front.{none_asked}
use Rattle.topic_parts.specs.Parts.{log_of}
use Rattle.topic_parts.proofs.Gone.{asked_more}
use Rattle.topic_parts.proofs.parts.Parts.done_by_all.Goals as goal

pub each-init : goal.each-init
each-init c = c.len-done.ensures.value ∙ sym (none_asked (log_of c.args.self.now))

pub each-preserved : goal.each-preserved
each-preserved c =
    let t = c.args.self.now in
    c.min-done.ensures
    ∙ asked_more (sub_in (log_of t)) t.subscriptions.items c.each.place (log_of t) c.each.done c.done_at.result (omega (arith, c.each-test.true, c.len-place-end.ensures)) c.each.invariant c.done_at.ensures
