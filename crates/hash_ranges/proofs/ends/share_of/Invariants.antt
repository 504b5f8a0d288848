use Rattle.std.proofs.Common.{length}
use Rattle.delivery_machine.specs.Shares.{is_share_of}
use Rattle.hash_ranges.proofs.Shares.{IsSought}
use Rattle.hash_ranges.proofs.ends.share_of.Given as goal

abbrev pub invariant-each : goal.invariant-each
invariant-each l = IsSought (is_share_of l.fn.consumer) l.fn.ends.entries l.from l.left

abbrev pub decreases-each : goal.decreases-each
decreases-each l = length l.left
