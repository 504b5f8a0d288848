use Rattle.std.proofs.Common.{◌∙◌, ap, sym, subst, List}
use Rattle.std.specs.Prelude.{not}
use Rattle.position_core.specs.declared.ranges.HashRange.{HashRange}
use Rattle.position_core.specs.Ranges.{AreRanges}
use Rattle.hash_ranges.proofs.Free.{some_ends}
use Rattle.hash_ranges.proofs.split_table.SplitTable.is_taken.Goals as goal

pub returns-then-not-is_empty : goal.returns-then-not-is_empty
returns-then-not-is_empty c =
    ap not c.if-not-is_empty.true
    ∙ rw (← c.self.view_is) (sym (some_ends c.self.inside.ends.entries c.self.inside.sticky c.args.ranges.now c.self.invariant.0 c.self.invariant.1 (subst (λ (rs : List HashRange). AreRanges rs) c.as_slice-ranges.ensures.value c.as_slice-ranges.ensures.within) c.if-not-is_empty.ensures.1))
