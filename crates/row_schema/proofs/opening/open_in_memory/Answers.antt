use Rattle.sqlite.specs.Held.{state}
use Rattle.sqlite.specs.Steps.{over_memory}
use Rattle.row_schema.proofs.FoundLemmas.{empty_keyed}
use Rattle.row_schema.proofs.opening.open_in_memory.Goals as goal

pub returns-in-Ok-clause-keyed : goal.returns-in-Ok-clause-keyed
returns-in-Ok-clause-keyed c = empty_keyed (state over_memory c.in-Ok.conn).now c.in-Ok.ensures.empty.2
