use Rattle.std.proofs.Common.{ap, arith, ◌∙◌}
use Rattle.pending_core.specs.Pending.{counted, counted_before}
use Rattle.pending_core.proofs.Collected.{counted_next}
use Rattle.pending_core.proofs.table.set_counts.Goals as goal

pub loop-one-preserved : goal.loop-one-preserved
loop-one-preserved c = record {
  tied = c.in_ok-set_count.ensures.tied;
  counted =
      c.in_ok-set_count.ensures.ok ∙ ap (counted c.one-item.result.position c.one-item.result.times) c.loop-one.invariant.counted
      ∙ ap counted_before (counted_next c.args.counts.now c.loop-one.one-index c.one-item.result c.requires.rising (omega (arith, c.loop-one-test.true)) c.one-item.is);
}
