use Rattle.std.proofs.Common.{◌≡◌, ◌∙◌, [], false, ap, sym, subst, List}
use Rattle.std.specs.List.{list_any}
use Rattle.std.proofs.lemmas.Result.{on_ok_weaker}
use Rattle.position_core.specs.declared.ranges.HashRange.{HashRange}
use Rattle.position_core.specs.Ranges.{AreRanges}
use Rattle.delivery_machine.specs.Shares.{Shares, is_taken, meets, sticky_with, with_ranges}
use Rattle.hash_ranges.proofs.Free.{free_ends, free_blocks, of_one_mode, table_joined}
use Rattle.hash_ranges.proofs.split_table.SplitTable.join_sticky.Goals as goal

pub take-requires-clause-free : goal.take-requires-clause-free
take-requires-clause-free c =
    let es = c.self.inside.ends.entries in
    let bs = c.self.inside.sticky in
    let free = subst (λ (s : Shares). is_taken c.args.ranges.now s ≡ false) (sym c.self.view_is) c.requires.free in
    let are = subst (λ (rs : List HashRange). AreRanges rs) c.as_slice.ensures.value c.as_slice.ensures.within in
    let none : es ≡ [] = free_ends es bs c.args.ranges.now c.self.invariant.0 c.self.invariant.1 are free in
    subst (λ (rs : List HashRange). list_any (λ r. list_any (meets r) bs) rs ≡ false) (sym c.as_slice.ensures.value) (free_blocks es bs c.args.ranges.now none free)

pub invariant_of-self : goal.invariant_of-self
invariant_of-self c =
    let es = c.self.inside.ends.entries in
    let bs = c.self.inside.sticky in
    let free = subst (λ (s : Shares). is_taken c.args.ranges.now s ≡ false) (sym c.self.view_is) c.requires.free in
    let are = subst (λ (rs : List HashRange). AreRanges rs) c.as_slice.ensures.value c.as_slice.ensures.within in
    let none : es ≡ [] = free_ends es bs c.args.ranges.now c.self.invariant.0 c.self.invariant.1 are free in
    (c.self.invariant.0, of_one_mode es c.take.new.self none)

pub returns-clause-ok : goal.returns-clause-ok
returns-clause-ok c =
    let es = c.self.inside.ends.entries in
    let bs = c.self.inside.sticky in
    let free = subst (λ (s : Shares). is_taken c.args.ranges.now s ≡ false) (sym c.self.view_is) c.requires.free in
    let are = subst (λ (rs : List HashRange). AreRanges rs) c.as_slice.ensures.value c.as_slice.ensures.within in
    let none : es ≡ [] = free_ends es bs c.args.ranges.now c.self.invariant.0 c.self.invariant.1 are free in
    on_ok_weaker c.take.result
    (λ taken.
    table_joined c.args.consumer c.args.ranges.now es bs c.take.new.self none are (taken ∙ ap (λ (rs : List HashRange). with_ranges c.args.consumer rs bs) c.as_slice.ensures.value)
    ∙ ap (sticky_with c.args.consumer c.args.ranges.now) c.self.view_is)
    c.take.ensures.ok
