use Rattle.std.proofs.Common.{◌≡◌}
use Rattle.std.specs.Prelude.{◌↔◌}
use Rattle.ack_ranges.proofs.ack_set.are_same.Given as goal

abbrev pub invariant-each : goal.invariant-each
invariant-each l =
    (goal.iterator-each).can_next l.one × (goal.iterator-each).is_finite l.one × ((l.one ≡ l.other) ↔ (l.fn.one ≡ l.fn.other))
