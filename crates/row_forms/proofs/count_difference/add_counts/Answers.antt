use Rattle.std.proofs.Common.{List, [], ◌++◌, map, subst}
use Rattle.std.specs.List.{All}
use Rattle.std.proofs.lemmas.List.{map-append}
use Rattle.delivery_machine.specs.declared.counts.Counted.{Counted}
use Rattle.row_forms.specs.Places.{seen}
use Rattle.row_forms.specs.Forms.{Span}
use Rattle.row_forms.specs.Parts.{ExtendsByEntries, IsCountedIn}
use Rattle.row_forms.specs.Sides.{new_of, old_of}
use Rattle.row_forms.proofs.Counts.{all_next, entries-append, entry_of, new_entries, no_entry_more, old_entries, seen_parts}
use Rattle.row_forms.proofs.Subs.{passed, nothing_left}
use Rattle.row_forms.proofs.count_difference.add_counts.Goals as goal

pub sides-init : goal.sides-init
sides-init c = ([], [], c.of-walk.ensures.olds, c.of-walk.ensures.news, no_entry_more c.args.sub.now (seen c.args.logs.was) (seen c.args.logs.now) c.args.difference.now)

pub add_count-requires-clause-there : goal.add_count-requires-clause-there
add_count-requires-clause-there c =
    let h = c.sides.invariant in
    let olds : List Counted = old_of (λ x. x.now) c.in-Some.side in
    subst (All (IsCountedIn (seen c.args.logs.was).log)) (old_entries c.in-Some.side)
    (all_next (IsCountedIn (seen c.args.logs.was).log) _ (map entry_of h.0) _ (map entry_of olds) _ (seen_parts entry_of _ h.0 _ h.2) (seen_parts entry_of _ olds _ c.in-Some.ensures.olds) c.requires.there)

pub add_count-requires-clause-here : goal.add_count-requires-clause-here
add_count-requires-clause-here c =
    let h = c.sides.invariant in
    let news : List Counted = new_of (λ x. x.now) c.in-Some.side in
    subst (All (IsCountedIn (seen c.args.logs.now).log)) (new_entries c.in-Some.side)
    (all_next (IsCountedIn (seen c.args.logs.now).log) _ (map entry_of h.1) _ (map entry_of news) _ (seen_parts entry_of _ h.1 _ h.3) (seen_parts entry_of _ news _ c.in-Some.ensures.news) c.requires.here)

pub sides-preserved : goal.sides-preserved
sides-preserved c =
    let h = c.sides.invariant in
    let was : Span = seen c.args.logs.was in
    let log : Span = seen c.args.logs.now in
    let side = c.in-Some.side in
    let olds : List Counted = old_of (λ x. x.now) side in
    let news : List Counted = new_of (λ x. x.now) side in
    let entries : ExtendsByEntries c.args.sub.now was log (map entry_of olds) (map entry_of news) c.sides.difference c.add_count.new.difference =
    rw (old_entries side, new_entries side) c.in_ok-add_count.ensures in (
      h.0 ++ olds,
      h.1 ++ news,
      passed _ h.0 _ _ _ h.2 c.in-Some.ensures.olds,
      passed _ h.1 _ _ _ h.3 c.in-Some.ensures.news,
      rw (map-append entry_of h.0 olds, map-append entry_of h.1 news)
          (entries-append c.args.sub.now was log c.args.difference.now c.sides.difference c.add_count.new.difference (map entry_of h.0) (map entry_of h.1) (map entry_of olds) (map entry_of news) h.4 entries),
    )

pub returns : goal.returns
returns c =
    let h = c.sides.invariant in
    rw (← nothing_left _ h.0 _ h.2 c.in_default.ensures.no_olds, ← nothing_left _ h.1 _ h.3 c.in_default.ensures.no_news) h.4
