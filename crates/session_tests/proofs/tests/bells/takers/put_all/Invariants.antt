use Rattle.std.proofs.Common.{◌≤◌, ◌*◌}
use Rattle.handover.specs.Passing.{last_of}
use Rattle.session_tests.proofs.tests.bells.takers.put_all.Given as goal

abbrev pub invariant-parts : goal.invariant-parts
invariant-parts g l = last_of 0 l.handover ≤ l.part * l.count
