use Rattle.std.proofs.Common.{◌≡◌, take}
use Rattle.delivery_machine.proofs.CountsListed.{counts_in}
use Rattle.pending_core.specs.Pending.{counted_before}
use Rattle.pending_core.specs.Kept.{pending_in, AreTied}
use Rattle.pending_core.proofs.table.set_counts.Given as goal

abbrev pub invariant-loop-one : goal.invariant-loop-one
invariant-loop-one l = record {
  tied : AreTied l.table.entries l.slots;
  counted : pending_in l.table.entries ≡ counted_before (counts_in (take l.one-index l.counts));
}
