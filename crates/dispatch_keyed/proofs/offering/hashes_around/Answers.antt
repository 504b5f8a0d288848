use Rattle.std.proofs.Common.{sym, ◌∙◌, arith}
use Rattle.hash_ranges.proofs.Apart.{next_from}
use Rattle.dispatch_keyed.proofs.offering.hashes_around.Goals as goal

pub overflow_add-result : goal.overflow_add-result
overflow_add-result c =
    let next = next_from c.from.result c.args.shares.now.blocks c.in-Some.block c.in-Some.ensures.apart c.in-Some.ensures.value in
    omega (arith, next.end)

pub returns-then-block-from-clause-end : goal.returns-then-block-from-clause-end
returns-then-block-from-clause-end c =
    let next = next_from c.from.result c.args.shares.now.blocks c.in-Some.block c.in-Some.ensures.apart c.in-Some.ensures.value in
    omega (arith, next.behind, c.from.ensures)

pub returns-then-block-from-clause-owner : goal.returns-then-block-from-clause-owner
returns-then-block-from-clause-owner c h low high =
    let next = next_from c.from.result c.args.shares.now.blocks c.in-Some.block c.in-Some.ensures.apart c.in-Some.ensures.value in
    next.owned h low high ∙ sym (next.owned c.args.hash (omega arith) (omega (arith, next.behind, c.from.ensures)))
