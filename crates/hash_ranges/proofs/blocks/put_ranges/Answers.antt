use Rattle.std.proofs.Common.{◌∙◌, ap, ap₂, sym, subst, arith, List, take_all}
use Rattle.position_core.specs.declared.block.Block.{Block}
use Rattle.position_core.specs.declared.ranges.HashRange.{HashRange}
use Rattle.delivery_machine.specs.Shares.{with_block, with_ranges}
use Rattle.delivery_machine.specs.ShareSets.{AreApart}
use Rattle.hash_ranges.proofs.Placed.{taken_apart, one_more, range_at}
use Rattle.hash_ranges.proofs.blocks.put_ranges.Goals as goal

pub block_of-requires-clause-order : goal.block_of-requires-clause-order
block_of-requires-clause-order c = (range_at 0 c.args.ranges.now c.loop-range.range-index _ c.requires.ranges.rise c.loop-range-test.true).0

pub block_of-requires-clause-within : goal.block_of-requires-clause-within
block_of-requires-clause-within c = (range_at 0 c.args.ranges.now c.loop-range.range-index _ c.requires.ranges.rise c.loop-range-test.true).1

pub put-requires-clause-apart : goal.put-requires-clause-apart
put-requires-clause-apart c =
    subst (λ (bs : List Block). AreApart 0 bs) (sym c.loop-range.invariant.so_far)
    (taken_apart c.args.consumer c.args.ranges.now c.args.blocks.now.items c.loop-range.range-index c.requires.ranges c.requires.free c.requires.apart)

pub loop-range-preserved : goal.loop-range-preserved
loop-range-preserved c = record {
  so_far =
      c.put.ensures.value ∙ ap₂ (λ (b : Block) (bs : List Block). with_block b bs) c.block_of.ensures c.loop-range.invariant.so_far
      ∙ sym (one_more c.args.consumer c.args.ranges.now c.args.blocks.now.items c.loop-range.range-index _ c.loop-range-test.true);
  room = omega (arith, c.put.ensures.length, c.put.ensures.capacity, c.loop-range.invariant.room);
}

pub returns-clause-value : goal.returns-clause-value
returns-clause-value c =
    c.loop-range.invariant.so_far
    ∙ ap (λ (rs : List HashRange). with_ranges c.args.consumer rs c.args.blocks.now.items) (take_all c.loop-range.range-index c.args.ranges.now c.loop-range-test.false)

pub returns-clause-apart : goal.returns-clause-apart
returns-clause-apart c =
    subst (λ (bs : List Block). AreApart 0 bs) (sym c.loop-range.invariant.so_far)
    (taken_apart c.args.consumer c.args.ranges.now c.args.blocks.now.items c.loop-range.range-index c.requires.ranges c.requires.free c.requires.apart)
