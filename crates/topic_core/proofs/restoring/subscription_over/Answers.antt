use Rattle.std.proofs.Common.{◌≡◌, ◌∙◌, List, ap, subst, rules}
use Rattle.delivery_machine.specs.State.{DeadLetter}
use Rattle.topic_subscriptions.specs.Placed.{StandAt, restored_from}
use Rattle.topic_core.proofs.Restored.{restored_from_kept}
use Rattle.topic_core.proofs.restoring.subscription_over.Goals as goal

pub returns-in-Ok : goal.returns-in-Ok
returns-in-Ok c =
    let log = c.args.log.now.log.log in
    let kept = c.args.kept.now in
    let places = c.in_ok-dead.dead.items in
    let letters : c.deref.result.now ≡ kept.dead = search rules in
    restored_from_kept log kept places c.len-length.ensures.rising c.requires
    (subst (λ (ds : List DeadLetter). StandAt log ds places) letters c.in_ok-dead.ensures.stand) c.in-Ok.subscription
    (c.in-Ok.ensures ∙ ap (restored_from kept) c.deref-2.ensures.value)
