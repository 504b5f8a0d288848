use Rattle.std.proofs.Common.{ap, ◌∙◌}
use Rattle.std.specs.FinMap as map_of
use Rattle.plain_lists.proofs.KeptCounts.{entries_back}
use Rattle.plain_lists.proofs.counts.CountTable.of.Goals as goal

pub returns : goal.returns
returns c = ap map_of.from_entries (c.in_ok-entries.ensures ∙ c.as_slice.ensures.entries) ∙ entries_back c.args.counts.now
