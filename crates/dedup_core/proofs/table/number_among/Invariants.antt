use Rattle.std.proofs.Common.{◌≡◌}
use Rattle.dedup_core.specs.Names.{number_at}
use Rattle.dedup_core.proofs.table.number_among.Given as goal

abbrev pub invariant-loop-key : goal.invariant-loop-key
invariant-loop-key l =
    (goal.iterator-loop-key).can_next l.key-iterator ×
    (goal.iterator-loop-key).is_finite l.key-iterator ×
    number_at l.key-iterator l.name ≡ number_at l.table.entries l.name
