use Rattle.std.proofs.Common.{◌≤◌, ◌+◌}
use Rattle.handover.specs.Passing.{last_of}
use Rattle.session_tests.proofs.tests.bells.takers.put_part.Given as goal

abbrev pub invariant-each : goal.invariant-each
invariant-each g l = last_of 0 l.handover ≤ l.before + l.i
