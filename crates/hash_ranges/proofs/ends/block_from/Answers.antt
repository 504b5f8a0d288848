use Rattle.std.proofs.Common.{◌∙◌}
use Rattle.hash_ranges.proofs.Free.{found_first, nothing_past}
use Rattle.hash_ranges.proofs.ends.block_from.Goals as goal

pub returns-then-hash-lt-HASHES : goal.returns-then-hash-lt-HASHES
returns-then-hash-lt-HASHES c = c.share_at.ensures.value ∙ found_first c.args.hash c.args.ends.now.entries c.requires

pub returns-else-hash-lt-HASHES : goal.returns-else-hash-lt-HASHES
returns-else-hash-lt-HASHES c = nothing_past c.args.hash c.args.ends.now.entries c.requires c.if-hash-lt-HASHES.false
