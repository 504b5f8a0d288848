use Rattle.std.proofs.Common.{List, [], ◌++◌}
use Rattle.delivery_machine.specs.State.{DeadLetter}
use Rattle.row_forms.specs.Places.{seen}
use Rattle.row_forms.specs.Sides.{new_of, old_of}
use Rattle.row_forms.proofs.Deads.{letters-append, no_letter_more}
use Rattle.row_forms.proofs.Subs.{passed, nothing_left}
use Rattle.row_forms.proofs.dead_difference.add_letters.Goals as goal

pub sides-init : goal.sides-init
sides-init c = ([], [], c.of-walk.ensures.olds, c.of-walk.ensures.news, no_letter_more c.args.sub.now (seen c.args.logs.was) (seen c.args.logs.now) c.args.difference.now)

pub sides-preserved : goal.sides-preserved
sides-preserved c =
    let h = c.sides.invariant in
    let olds : List DeadLetter = old_of (λ x. x.now) c.in-Some.side in
    let news : List DeadLetter = new_of (λ x. x.now) c.in-Some.side in (
      h.0 ++ olds,
      h.1 ++ news,
      passed _ h.0 _ _ _ h.2 c.in-Some.ensures.olds,
      passed _ h.1 _ _ _ h.3 c.in-Some.ensures.news,
      letters-append c.args.sub.now (seen c.args.logs.was) (seen c.args.logs.now) c.args.difference.now c.sides.difference c.add_letter.new.difference h.0 h.1 olds news h.4 c.in_ok-add_letter.ensures,
    )

pub returns : goal.returns
returns c =
    let h = c.sides.invariant in
    rw (← nothing_left _ h.0 _ h.2 c.in_default.ensures.no_olds, ← nothing_left _ h.1 _ h.3 c.in_default.ensures.no_news) h.4
