use Rattle.std.proofs.Common.{List, [], ◌++◌}
use Rattle.delivery_machine.specs.Places.{KeptPlaces}
use Rattle.row_forms.specs.Places.{seen}
use Rattle.row_forms.specs.Sides.{new_of, old_of}
use Rattle.row_forms.proofs.Deads.{deads-append, deads_in_all, no_dead_more}
use Rattle.row_forms.proofs.Subs.{passed, nothing_left}
use Rattle.row_forms.proofs.dead_difference.dead_difference.Goals as goal

pub sides-init : goal.sides-init
sides-init c = ([], [], c.of-walk.ensures.olds, c.of-walk.ensures.news, no_dead_more (seen c.args.logs.was) (seen c.args.logs.now) c.none-difference.result)

pub sides-preserved : goal.sides-preserved
sides-preserved c =
    let h = c.sides.invariant in
    let olds : List KeptPlaces = old_of (λ x. x.now) c.in-Some.side in
    let news : List KeptPlaces = new_of (λ x. x.now) c.in-Some.side in (
      h.0 ++ olds,
      h.1 ++ news,
      passed _ h.0 _ _ _ h.2 c.in-Some.ensures.olds,
      passed _ h.1 _ _ _ h.3 c.in-Some.ensures.news,
      deads-append (seen c.args.logs.was) (seen c.args.logs.now) c.none-difference.result c.sides.difference c.add.new.difference h.0 h.1 olds news h.4 c.in_ok-add.ensures,
    )

pub returns : goal.returns
returns c =
    let h = c.sides.invariant in
    deads_in_all (seen c.args.logs.was) (seen c.args.logs.now) c.none-difference.result c.sides.difference _ _ h.0 h.1 c.none-difference.ensures.gone c.none-difference.ensures.news
    (nothing_left _ h.0 _ h.2 c.in_default.ensures.no_olds) (nothing_left _ h.1 _ h.3 c.in_default.ensures.no_news) h.4
