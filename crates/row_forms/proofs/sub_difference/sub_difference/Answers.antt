use Rattle.std.proofs.Common.{List, [], ◌++◌, refl}
use Rattle.delivery_machine.specs.Places.{KeptPlaces}
use Rattle.row_forms.specs.Sides.{new_of, old_of}
use Rattle.row_forms.specs.Changes.{sub_cells}
use Rattle.row_forms.specs.Forms.{sub_rows}
use Rattle.row_forms.proofs.Differences.{nothing_more, extends-append, extends_in_all}
use Rattle.row_forms.proofs.Subs.{sub_rows-append, passed, nothing_left}
use Rattle.row_forms.proofs.sub_difference.sub_difference.Goals as goal

pub sides-init : goal.sides-init
sides-init c = ([], [], c.of-walk.ensures.olds, c.of-walk.ensures.news, nothing_more sub_cells sub_rows sub_rows c.none-difference.result (λ topic. refl) (λ topic. refl))

pub sides-preserved : goal.sides-preserved
sides-preserved c =
    let h = c.sides.invariant in
    let olds : List KeptPlaces = old_of (λ x. x.now) c.in-Some.side in
    let news : List KeptPlaces = new_of (λ x. x.now) c.in-Some.side in (
      h.0 ++ olds,
      h.1 ++ news,
      passed _ h.0 _ _ _ h.2 c.in-Some.ensures.olds,
      passed _ h.1 _ _ _ h.3 c.in-Some.ensures.news,
      extends-append sub_cells sub_rows sub_rows sub_rows-append sub_rows-append c.none-difference.result c.sides.difference c.add.new.difference h.0 h.1 olds news h.4 c.in_ok-add.ensures,
    )

pub returns : goal.returns
returns c =
    let h = c.sides.invariant in
    extends_in_all sub_cells sub_rows sub_rows c.none-difference.result c.sides.difference _ _ h.0 h.1 c.none-difference.ensures.gone c.none-difference.ensures.news
    (nothing_left _ h.0 _ h.2 c.in_default.ensures.no_olds) (nothing_left _ h.1 _ h.3 c.in_default.ensures.no_news) h.4
