use Rattle.std.proofs.Common.{◌≡◌, drop}
use Rattle.std.specs.List.{find}
use Rattle.delivery_machine.specs.Shares.{is_share_of}
use Rattle.hash_ranges.proofs.blocks.share_of.Given as goal

abbrev pub invariant-loop-block : goal.invariant-loop-block
invariant-loop-block l = find (is_share_of l.consumer) (drop l.block-index l.blocks) ≡ find (is_share_of l.consumer) l.blocks
