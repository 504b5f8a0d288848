use Rattle.std.proofs.Common.{◌≡◌, length, take}
use Rattle.delivery_machine.proofs.delivery.are_same.Given as goal

abbrev pub invariant-each : goal.invariant-each
invariant-each l = (length l.items ≡ length l.others) × (take l.i l.items ≡ take l.i l.others)
