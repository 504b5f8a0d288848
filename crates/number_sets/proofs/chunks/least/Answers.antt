use Rattle.std.proofs.Common.{arith, ◌/◌}
use Rattle.number_sets.proofs.Ranges.{in_chunk, three_ranges}
use Rattle.number_sets.proofs.chunks.least.Goals as goal

pub returns-then-first-last : goal.returns-then-first-last
returns-then-first-last c =
    let same = c.if-first-last.true in
    in_chunk c.args.chunks.now (c.args.from / 256) _ _ c.args.from c.args.end _ (omega arith) (omega arith) (omega arith) c.least_in.ensures

pub returns : goal.returns
returns c =
    rw (c.better-2.ensures, c.better.ensures)
    (three_ranges c.args.chunks.now c.args.top.now c.args.from c.args.end _ _ _ c.requires.tied c.requires.order c.requires.within c.if-first-last.false c.least_in-before.ensures c.least-between.ensures c.least_in-after.ensures)
