use Rattle.std.proofs.Common.{rules, ◌≡◌, Bool, List, sym, subst}
use Rattle.std.specs.Prelude.{◌↔◌, IsTrue}
use Rattle.std.specs.List.Sorted.{IsPermutation, IsNonDecreasingBy}
use Rattle.std.proofs.lemmas.List.Sorted.{IsNonDecreasingBy-from_sort_by_key}
use Rattle.position_core.specs.declared.ranges.HashRange.{HashRange}
use Rattle.position_core.specs.Ranges.{AreRanges, MayBeRanges}
use Rattle.position_core.proofs.RangesInOrder.{may_be_ranges}
use Rattle.position_core.proofs.ranges.Ranges.new.Goals as goal

-- what is seen of the sorted ranges says whether they may be given
decided : (given sorted seen : List HashRange) (fits : Bool) → IsPermutation given sorted → IsNonDecreasingBy (λ r. r.first) sorted → seen ≡ sorted → IsTrue fits ↔ AreRanges seen → IsTrue fits ↔ MayBeRanges given
decided given sorted seen fits moved order same is =
    let may = may_be_ranges given sorted moved order in
    (λ t. may.0 (subst AreRanges same (is.0 t)), λ m. is.1 (subst AreRanges (sym same) (may.1 m)))

pub returns-then-are_ranges-clause-fits : goal.returns-then-are_ranges-clause-fits
returns-then-are_ranges-clause-fits c =
    decided c.args.given.items c.sort_unstable_by_key.new.self.items c.deref.result.now _ c.sort_unstable_by_key.ensures.permutation
    (IsNonDecreasingBy-from_sort_by_key (λ (r : HashRange). r.first) _ c.sort_unstable_by_key.ensures.sorted (λ a r q k. search rules)) c.deref.ensures.value c.if-are_ranges.ensures

pub returns-else-are_ranges-clause-fits : goal.returns-else-are_ranges-clause-fits
returns-else-are_ranges-clause-fits c =
    decided c.args.given.items c.sort_unstable_by_key.new.self.items c.deref.result.now _ c.sort_unstable_by_key.ensures.permutation
    (IsNonDecreasingBy-from_sort_by_key (λ (r : HashRange). r.first) _ c.sort_unstable_by_key.ensures.sorted (λ a r q k. search rules)) c.deref.ensures.value c.if-are_ranges.ensures
