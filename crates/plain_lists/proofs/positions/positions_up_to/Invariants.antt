use Rattle.std.proofs.Common.{◌≡◌, take}
use Rattle.delivery_machine.specs.Acknowledging.{positions_up_to}
use Rattle.plain_lists.proofs.positions.positions_up_to.Given as goal

abbrev pub invariant-loop-message : goal.invariant-loop-message
invariant-loop-message l = l.positions.items ≡ positions_up_to l.fn.position (take l.message-index l.log)
