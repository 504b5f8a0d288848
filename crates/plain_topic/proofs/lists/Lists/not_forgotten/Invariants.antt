use Rattle.std.proofs.Common.{◌≡◌, ◌++◌, drop}
use Rattle.delivery_machine.specs.Trimming.{not_forgotten}
use Rattle.plain_topic.specs.StateOf.{state_of}
use Rattle.plain_topic.proofs.lists.Lists.not_forgotten.Given as goal

abbrev pub invariant-each : goal.invariant-each
invariant-each l = l.kept.items ++ not_forgotten (state_of l.self) l.stay (drop l.i l.authors) ≡ not_forgotten (state_of l.self) l.stay l.authors
