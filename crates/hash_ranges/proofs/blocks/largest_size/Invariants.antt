use Rattle.std.proofs.Common.{◌≡◌, drop}
use Rattle.std.specs.Prelude.{max}
use Rattle.delivery_machine.specs.Shares.{most_hashes}
use Rattle.hash_ranges.proofs.blocks.largest_size.Given as goal

abbrev pub invariant-loop-block : goal.invariant-loop-block
invariant-loop-block l = max l.most (most_hashes (drop l.block-index l.blocks)) ≡ most_hashes l.blocks
