use Rattle.std.proofs.Common.{◌≡◌, ℕ, ◌<◌, ◌≤◌, ◌-◌, true, Some, get_or, length}
use Rattle.std.specs.FinSet as set
use Rattle.dispatch_core.specs.Log.{holder_at}
use Rattle.hash_rows.proofs.row.Row.are_all_at.Given as goal

abbrev pub invariant-loop-rank : goal.invariant-loop-rank
invariant-loop-rank g l = record {
  behind : l.initial.from ≤ l.from;
  all : (r : ℕ) → l.initial.from ≤ r → r < l.from → set.contains l.self.held.places r ≡ true → holder_at (g.V.View.state l.view) (g.V.View.subscription l.view) (get_or l.self.places.items r 0 - l.base) ≡ Some l.owner;
}

abbrev pub decreases-loop-rank : goal.decreases-loop-rank
decreases-loop-rank g l = length l.self.places.items - l.from
