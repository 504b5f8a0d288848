use Rattle.std.proofs.Common.{◌≡◌}
use Rattle.handover.specs.Passing.{Rises}
use Rattle.session_tests.proofs.tests.bells.takers.take_into.Given as goal

abbrev pub invariant-each : goal.invariant-each
invariant-each g l = (l.numbers.items ≡ l.taker) × Rises 0 l.numbers.items
