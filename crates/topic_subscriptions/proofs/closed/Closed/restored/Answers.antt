use Rattle.std.proofs.Common.{◌≡◌, arith, ap, sym, ◌∙◌, get_or}
use Rattle.std.proofs.lemmas.List.{take_all}
use Rattle.topic_subscriptions.specs.Closed.{is_open, outcomes_of}
use Rattle.topic_subscriptions.proofs.Outcomes.{buried_so_far, same_so_far}
use Rattle.topic_subscriptions.proofs.closed.Closed.restored.Goals as goal
use Rattle.topic_subscriptions.proofs.closed.Closed.restored.Goals.{then-next_open-place+in_ok-bury, else-next_open-place}

pub loop-place-preserved : goal.loop-place-preserved
loop-place-preserved c =
    elim c.if-next_open-place.branch [
      | then-next_open-place+in_ok-bury w ↦
          buried_so_far c.args.acknowledged c.args.dead.now c.loop-place.place-index c.loop-place.closed c.if-next_open-place.closed c.loop-place-test.true c.loop-place.invariant
          (ap (is_open c.loop-place.closed) (sym w.if-next_open-place.true) ∙ c.next_open.ensures.is_open) (w.closed-is ∙ w.in_ok-bury.ensures.ok)
      | else-next_open-place w ↦
          let is : c.if-next_open-place.closed ≡ c.loop-place.closed = w.closed-is in
          is ∙ same_so_far c.args.acknowledged c.args.dead.now c.loop-place.place-index c.loop-place.closed c.loop-place-test.true c.loop-place.invariant
          (c.next_open.ensures.least (get_or c.args.dead.now c.loop-place.place-index 0) (omega arith) (omega (arith, c.next_open.ensures.after, w.if-next_open-place.false)))
    ]

pub returns : goal.returns
returns c = c.loop-place.invariant ∙ ap (λ ks. outcomes_of c.args.acknowledged ks) (take_all c.loop-place.place-index c.args.dead.now (omega arith))
