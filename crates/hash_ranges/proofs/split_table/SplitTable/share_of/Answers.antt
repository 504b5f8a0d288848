use Rattle.hash_ranges.proofs.Free.{table_split}
use Rattle.hash_ranges.proofs.split_table.SplitTable.share_of.Goals as goal

pub returns-else-is_sticky-clause-split : goal.returns-else-is_sticky-clause-split
returns-else-is_sticky-clause-split c = rw (← c.self.view_is) (table_split c.self.inside.ends.entries c.self.inside.sticky c.self.invariant.0)
