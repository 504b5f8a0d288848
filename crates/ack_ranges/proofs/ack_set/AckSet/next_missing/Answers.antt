use Rattle.ack_ranges.proofs.Lowering.{next_lowered}
use Rattle.ack_ranges.proofs.ack_set.AckSet.next_missing.Goals as goal

pub returns : goal.returns
returns c =
    rw (c.lowered.ensures, ← c.self.view_is)
    (next_lowered c.self.inside.base c.self.inside.spans c.self.invariant c.args.from c.next_missing.result (rw c.raised.ensures at c.next_missing.ensures))
