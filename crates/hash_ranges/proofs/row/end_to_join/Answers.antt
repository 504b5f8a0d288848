use Rattle.std.proofs.Common.{arith}
use Rattle.hash_ranges.proofs.Joins.{joins_half, joins_all, half_fits}
use Rattle.hash_ranges.proofs.row.end_to_join.Goals as goal

pub overflow_add-result : goal.overflow_add-result
overflow_add-result c = omega (arith, c.half.ensures, half_fits c.args.ends.now.entries c.in-Some.share c.requires c.in-Some.ensures)

pub returns-else-share-lt2 : goal.returns-else-share-lt2
returns-else-share-lt2 c = rw c.half.ensures (joins_half c.args.ends.now.entries c.in-Some.share c.requires c.in-Some.ensures c.if-share-lt2.false)

pub returns-in-None : goal.returns-in-None
returns-in-None c = joins_all c.args.ends.now.entries c.in-None.ensures
