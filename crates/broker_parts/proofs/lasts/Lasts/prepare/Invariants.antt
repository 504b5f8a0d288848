use Rattle.std.proofs.Common.{◌≡◌, ℕ, ◌+◌, ◌-◌, length}
use Rattle.broker_parts.specs.Bulks.{last_at}
use Rattle.broker_parts.proofs.lasts.Lasts.prepare.Given as goal

abbrev pub decreases-each : goal.decreases-each
decreases-each l = (l.seat + 1) - length l.self.seats.items

abbrev pub invariant-each : goal.invariant-each
invariant-each l = (other : ℕ) → last_at l.self.seats.items other ≡ last_at l.initial.self.seats.items other
