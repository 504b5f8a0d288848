use Rattle.std.proofs.Common.{◌≡◌, List, map, take}
use Rattle.std.specs.List.Sorted.{IsStrictlySortedBy}
use Rattle.std.specs.FinSet as set
use Rattle.position_core.specs.Position.{position_cmp}
use Rattle.delivery_machine.specs.State.{DeadLetter}
use Rattle.delivery_machine.specs.WellFormed.{AreCountsOf}
use Rattle.plain_lists.proofs.KeptCounts.{of_messages}
use Rattle.plain_lists.proofs.counts.CountTable.counts.Given as goal

abbrev pub invariant-loop-message : goal.invariant-loop-message
invariant-loop-message l =
    (acknowledged : set.FinSet position_cmp) (dead : List DeadLetter) → IsStrictlySortedBy position_cmp (map (λ e. e.position) l.log) → AreCountsOf l.log acknowledged dead l.self
    → l.counts ≡ of_messages l.self (take l.message-index l.log)
