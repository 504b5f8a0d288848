use Rattle.std.proofs.Common.{◌∙◌}
use Rattle.ack_ranges.proofs.Raised.{lowered_none, raised_none}
use Rattle.ack_ranges.proofs.ack_set.AckSet.new.Goals as goal

pub invariant_of-result : goal.invariant_of-result
invariant_of-result c = rw c.new.ensures raised_none

pub returns : goal.returns
returns c = lowered_none c.new.result ∙ c.new.ensures
