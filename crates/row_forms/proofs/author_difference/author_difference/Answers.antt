use Rattle.std.proofs.Common.{List, [], ◌++◌, refl}
use Rattle.delivery_machine.specs.State.{Author}
use Rattle.row_forms.specs.Sides.{new_of, old_of}
use Rattle.row_forms.specs.Changes.{author_cells}
use Rattle.row_forms.specs.Forms.{author_rows}
use Rattle.row_forms.proofs.Differences.{nothing_more, extends-append, extends_in_all}
use Rattle.row_forms.proofs.Authors.{author_rows-append}
use Rattle.row_forms.proofs.Subs.{passed, nothing_left}
use Rattle.row_forms.proofs.author_difference.author_difference.Goals as goal

pub sides-init : goal.sides-init
sides-init c = ([], [], c.of-walk.ensures.olds, c.of-walk.ensures.news, nothing_more author_cells author_rows author_rows c.none-difference.result (λ topic. refl) (λ topic. refl))

pub sides-preserved : goal.sides-preserved
sides-preserved c =
    let h = c.sides.invariant in
    let olds : List Author = old_of (λ x. x.now) c.in-Some.side in
    let news : List Author = new_of (λ x. x.now) c.in-Some.side in (
      h.0 ++ olds,
      h.1 ++ news,
      passed _ h.0 _ _ _ h.2 c.in-Some.ensures.olds,
      passed _ h.1 _ _ _ h.3 c.in-Some.ensures.news,
      extends-append author_cells author_rows author_rows author_rows-append author_rows-append c.none-difference.result c.sides.difference c.add.new.difference h.0 h.1 olds news h.4 c.in_ok-add.ensures,
    )

pub returns : goal.returns
returns c =
    let h = c.sides.invariant in
    extends_in_all author_cells author_rows author_rows c.none-difference.result c.sides.difference _ _ h.0 h.1 c.none-difference.ensures.gone c.none-difference.ensures.news
    (nothing_left _ h.0 _ h.2 c.in_default.ensures.no_olds) (nothing_left _ h.1 _ h.3 c.in_default.ensures.no_news) h.4
