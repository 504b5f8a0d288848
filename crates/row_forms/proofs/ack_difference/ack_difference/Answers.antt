use Rattle.std.proofs.Common.{List, [], ◌++◌}
use Rattle.delivery_machine.specs.Places.{KeptPlaces}
use Rattle.row_forms.specs.Sides.{new_of, old_of}
use Rattle.row_forms.proofs.Acks.{no_acks}
use Rattle.row_forms.proofs.Subs.{passed}
use Rattle.row_forms.proofs.ack_difference.ack_difference.Goals as goal

pub sides-init : goal.sides-init
sides-init c = ([], [], c.of-walk.ensures.olds, c.of-walk.ensures.news, no_acks c.args.gone.was c.args.gone.now c.none-difference.result c.none-difference.ensures.gone c.none-difference.ensures.news)

pub sides-preserved : goal.sides-preserved
sides-preserved c =
    let h = c.sides.invariant in
    let olds : List KeptPlaces = old_of (λ x. x.now) c.in-Some.side in
    let news : List KeptPlaces = new_of (λ x. x.now) c.in-Some.side in (
      h.0 ++ olds,
      h.1 ++ news,
      passed _ h.0 _ _ _ h.2 c.in-Some.ensures.olds,
      passed _ h.1 _ _ _ h.3 c.in-Some.ensures.news,
      c.in_ok-add.ensures h.0 h.1 h.4,
    )
