use Rattle.std.proofs.Common.{◌≡◌, take}
use Rattle.delivery_machine.specs.Ticking.{pending_positions_in}
use Rattle.plain_queries.proofs.due.pending_positions.Given as goal

abbrev pub invariant-loop-message : goal.invariant-loop-message
invariant-loop-message l = l.positions.items ≡ pending_positions_in (take l.message-index l.log) l.subscription
