use Rattle.std.proofs.Common.{ap, sym, ◌∙◌}
use Rattle.std.specs.Prelude.{length, bit_xor, ◌%◌, ◌^◌}
use Rattle.murmur_core.specs.Murmur.{murmur3, finished}
use Rattle.murmur_core.proofs.Blocks.{after_block, with_bytes-tail}
use Rattle.murmur_core.proofs.murmur.murmur3_32.Goals as goal

pub loop-rest-preserved : goal.loop-rest-preserved
loop-rest-preserved c =
    after_block c.loop-rest.hash c.loop-rest.rest.now _ _ _ c.in-len4-up.len_at_least c.from_le_bytes.ensures c.add_block-hash.ensures c.loop-rest.invariant

pub returns : goal.returns
unfolding murmur3
returns c =
    let tail = with_bytes-tail c.loop-rest.hash c.loop-rest.rest.now c.in_default.len_below in
    c.finish.ensures ∙ ap (λ hash. finished (bit_xor hash (length c.args.bytes.now % 2 ^ 32))) (c.add_tail.ensures ∙ sym tail ∙ c.loop-rest.invariant)
