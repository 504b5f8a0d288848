use Rattle.std.proofs.Common.{◌∙◌, ap, sym}
use Rattle.std.proofs.lemmas.Option.{get_or_from_slice_get}
use Rattle.dispatch_single.specs.InOrder.{comes_before, pair_of}
use Rattle.dispatch_single.proofs.InLine.{next_is_better, best_stays}
use Rattle.dispatch_single.proofs.active.better.Goals as goal

pub returns-then-comes_before : goal.returns-then-comes_before
returns-then-comes_before c = λ line there was.
    let x = pair_of c.args.next in
    let so_far = rw c.in-Some.is at was in (
      next_is_better line c.args.next.place x there c.in-Some.first.place
          (ap (comes_before x) (get_or_from_slice_get line c.in-Some.first.place _ (0, 0) so_far.1) ∙ sym c.comes_before.ensures ∙ c.if-comes_before.true)
          so_far.0,
      there,
    )

pub returns-else-comes_before : goal.returns-else-comes_before
returns-else-comes_before c = λ line there was.
    let x = pair_of c.args.next in
    let so_far = rw c.in-Some.is at was in (
      best_stays line c.args.next.place x there c.in-Some.first.place
          (ap (comes_before x) (get_or_from_slice_get line c.in-Some.first.place _ (0, 0) so_far.1) ∙ sym c.comes_before.ensures ∙ c.if-comes_before.false)
          so_far.0,
      so_far.1,
    )
