use Rattle.std.proofs.Common.{◌≡◌, ◌++◌, take}
use Rattle.std.specs.Prelude.{not}
use Rattle.std.specs.List.{filter}
use Rattle.delivery_machine.specs.Acknowledging.{is_one_of}
use Rattle.plain_lists.proofs.counts.add_others.Given as goal

abbrev pub invariant-loop-entry : goal.invariant-loop-entry
invariant-loop-entry l = l.to.items ≡ l.initial.to.items ++ filter (λ e. not (is_one_of l.positions e.0)) (take l.entry-index l.entries)
