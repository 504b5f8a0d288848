use Rattle.std.proofs.Common.{subst, List}
use Rattle.position_core.specs.declared.block.Block.{Block}
use Rattle.delivery_machine.specs.ShareSets.{AreApart}
use Rattle.hash_ranges.proofs.Free.{table_apart}
use Rattle.hash_ranges.proofs.split_table.SplitTable.block_from.Goals as goal

pub returns-then-is_sticky-clause-apart : goal.returns-then-is_sticky-clause-apart
returns-then-is_sticky-clause-apart c =
    rw (← c.self.view_is)
    (table_apart c.self.inside.ends.entries c.self.inside.sticky c.self.invariant.0 (subst (λ (bs : List Block). AreApart 0 bs) c.blocks-2.ensures.value c.blocks-2.ensures.apart))

pub returns-else-is_sticky-clause-apart : goal.returns-else-is_sticky-clause-apart
returns-else-is_sticky-clause-apart c =
    rw (← c.self.view_is)
    (table_apart c.self.inside.ends.entries c.self.inside.sticky c.self.invariant.0 (subst (λ (bs : List Block). AreApart 0 bs) c.blocks-2.ensures.value c.blocks-2.ensures.apart))
