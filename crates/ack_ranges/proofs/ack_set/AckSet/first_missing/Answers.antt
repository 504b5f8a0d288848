use Rattle.ack_ranges.proofs.Lowering.{first_lowered}
use Rattle.ack_ranges.proofs.ack_set.AckSet.first_missing.Goals as goal

pub returns : goal.returns
returns c =
    rw (c.lowered.ensures, ← c.self.view_is) (first_lowered c.self.inside.base c.self.inside.spans c.self.invariant c.first_missing.result c.first_missing.ensures)
