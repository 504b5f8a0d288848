use Rattle.std.proofs.Common.{arith}
use Rattle.ack_ranges.proofs.Lowering.{count_lowered}
use Rattle.ack_ranges.proofs.ack_set.AckSet.count_below.Goals as goal

pub returns-clause-value : goal.returns-clause-value
returns-clause-value c =
    rw (← c.self.view_is) (
    let counted = rw c.raised.ensures at c.count_below.ensures.value in
    omega (arith, c.lowered.ensures, counted, count_lowered c.self.inside.base c.self.inside.spans c.self.invariant c.args.end)
    )
