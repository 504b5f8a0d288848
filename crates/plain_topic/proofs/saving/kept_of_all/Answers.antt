use Rattle.std.proofs.Common.{◌≡◌, List, length, sym, subst}
use Rattle.std.specs.List.{All}
use Rattle.std.proofs.lemmas.List.Elements.{All-push}
use Rattle.delivery_machine.specs.Places.{AreBelow, KeptPlaces, kept_in}
use Rattle.delivery_machine.specs.Snapshot.{kept_of}
use Rattle.delivery_machine.specs.State.{Subscription}
use Rattle.delivery_machine.specs.WellFormed.{IsSoundSubscription}
use Rattle.plain_topic.proofs.Saved.{one_kept}
use Rattle.plain_topic.proofs.saving.kept_of_all.Goals as goal

pub loop-subscription-preserved : goal.loop-subscription-preserved
loop-subscription-preserved c =
    let log = c.args.log.now in
    let i = c.loop-subscription.subscription-index in
    let before = c.loop-subscription.kept.items in
    let sub = c.subscription-item.result in
    let kept = c.in_ok-kept.field-0 in
    let pushed = c.in_ok-push.ensures.items in
    let sound = subst (λ (s : Subscription). IsSoundSubscription log (kept_of s)) (sym {A = Subscription} c.subscription-item.is) (c.requires.sound i sub c.loop-subscription-test.true) in
    let same : kept_in log kept ≡ kept_of sub = c.in_ok-kept.ensures.same c.requires.rising sound.acknowledged sound.counted in (
      one_kept log before c.push.new.self.items c.args.subscriptions.now i kept sub c.loop-subscription-test.true c.subscription-item.is same c.loop-subscription.invariant.0 pushed,
      subst (λ (ks : List KeptPlaces). All (λ (k : KeptPlaces). AreBelow (length log) k.acknowledged) ks) (sym pushed)
          (All-push (λ (k : KeptPlaces). AreBelow (length log) k.acknowledged) before kept c.loop-subscription.invariant.1 c.in_ok-kept.ensures.within),
    )
