use Rattle.std.proofs.Common.{◌≤◌, take_all, refl, ap, ◌∙◌, sym, arith, true≢false}
use Rattle.delivery_machine.specs.Ticking.{most_count}
use Rattle.plain_lists.proofs.KeptCounts.{IsAt, of_none, of_all, of_messages, step_counted, step_not}
use Rattle.plain_lists.proofs.counts.CountTable.counts.Goals as goal
use Rattle.plain_lists.proofs.counts.CountTable.counts.Goals.{in-Some+in_ok-push, in_default}

pub loop-message-init : goal.loop-message-init
loop-message-init c acknowledged dead rising are = c.new-counts.ensures ∙ of_none c.args.self.now

pub loop-message-preserved : goal.loop-message-preserved
loop-message-preserved c acknowledged dead rising are =
    let m = c.args.self.now in
    let log = c.args.log.now in
    let i = c.loop-message.message-index in
    let e = c.message-item.result in
    let p = c.position-position.result in
    let n = c.get.result in
    let counts = c.loop-message.counts in
    let at : IsAt m log i e p n counts = record {
      low = c.loop-message-test.true;
      rising = rising;
      message = c.message-item.is;
      position = c.position-position.ensures;
      read = c.get.ensures;
      before = c.loop-message.invariant acknowledged dead rising are;
    } in
    elim c.match-new.branch [
      | in-Some+in_ok-push w ↦
          let fits : (1 ≤ n) × (n ≤ most_count) = w.in-Some.ensures.fits.0 refl in
          step_counted m log i e p n counts c.match-new.counts at w.in-Some.times w.in-Some.ensures.value (omega (arith, fits.0)) (λ after. w.counts-is ∙ w.in_ok-push.ensures.after after)
      | in_default w ↦
          step_not m log i e p n counts c.match-new.counts at acknowledged dead are
          (λ fits. let some : 1 ≤ n = omega (arith, fits.0) in true≢false (sym (w.in_default.ensures.fits.1 (some, fits.1)))) w.counts-is
    ]

pub returns : goal.returns
returns c acknowledged dead rising are =
    c.loop-message.invariant acknowledged dead rising are
    ∙ ap (of_messages c.args.self.now) (take_all c.loop-message.message-index c.args.log.now c.loop-message-test.false)
    ∙ of_all c.args.self.now c.args.log.now acknowledged dead are
