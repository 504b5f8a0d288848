use Rattle.std.proofs.Common.{List, [], ◌++◌}
use Rattle.delivery_machine.specs.Places.{KeptPlaces}
use Rattle.row_forms.specs.Places.{seen}
use Rattle.row_forms.specs.Parts.{AreCountedIn}
use Rattle.row_forms.specs.Sides.{new_of, old_of}
use Rattle.row_forms.proofs.Counts.{all_next, counts-append, counts_in_all, no_count_more}
use Rattle.row_forms.proofs.Subs.{passed, nothing_left}
use Rattle.row_forms.proofs.count_difference.count_difference.Goals as goal

pub sides-init : goal.sides-init
sides-init c = ([], [], c.of-walk.ensures.olds, c.of-walk.ensures.news, no_count_more (seen c.args.logs.was) (seen c.args.logs.now) c.none-difference.result)

pub add-requires-clause-there : goal.add-requires-clause-there
add-requires-clause-there c =
    let h = c.sides.invariant in
    all_next (AreCountedIn (seen c.args.logs.was).log) _ h.0 _ (old_of (λ x. x.now) c.in-Some.side) _ h.2 c.in-Some.ensures.olds c.requires.there

pub add-requires-clause-here : goal.add-requires-clause-here
add-requires-clause-here c =
    let h = c.sides.invariant in
    all_next (AreCountedIn (seen c.args.logs.now).log) _ h.1 _ (new_of (λ x. x.now) c.in-Some.side) _ h.3 c.in-Some.ensures.news c.requires.here

pub sides-preserved : goal.sides-preserved
sides-preserved c =
    let h = c.sides.invariant in
    let olds : List KeptPlaces = old_of (λ x. x.now) c.in-Some.side in
    let news : List KeptPlaces = new_of (λ x. x.now) c.in-Some.side in (
      h.0 ++ olds,
      h.1 ++ news,
      passed _ h.0 _ _ _ h.2 c.in-Some.ensures.olds,
      passed _ h.1 _ _ _ h.3 c.in-Some.ensures.news,
      counts-append (seen c.args.logs.was) (seen c.args.logs.now) c.none-difference.result c.sides.difference c.add.new.difference h.0 h.1 olds news h.4 c.in_ok-add.ensures,
    )

pub returns : goal.returns
returns c =
    let h = c.sides.invariant in
    counts_in_all (seen c.args.logs.was) (seen c.args.logs.now) c.none-difference.result c.sides.difference _ _ h.0 h.1 c.none-difference.ensures.gone c.none-difference.ensures.news
    (nothing_left _ h.0 _ h.2 c.in_default.ensures.no_olds) (nothing_left _ h.1 _ h.3 c.in_default.ensures.no_news) h.4
