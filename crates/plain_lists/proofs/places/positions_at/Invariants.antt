use Rattle.std.proofs.Common.{◌≡◌, take}
use Rattle.std.specs.FinSet as set
use Rattle.delivery_machine.specs.Places.{positions_from}
use Rattle.plain_lists.proofs.places.positions_at.Given as goal

abbrev pub invariant-each : goal.invariant-each
invariant-each l = l.positions.items ≡ positions_from 0 (set.contains l.places) (take l.i l.log)
