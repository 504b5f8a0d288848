use Rattle.dedup_core.proofs.Agreed.{agrees-empty}
use Rattle.dedup_core.proofs.sequences.Sequences.new.Goals as goal

pub returns-clause-agrees : goal.returns-clause-agrees
returns-clause-agrees c = rw c.new.ensures.empty agrees-empty
