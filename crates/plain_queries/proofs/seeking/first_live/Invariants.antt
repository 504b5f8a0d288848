use Rattle.std.proofs.Common.{◌≡◌, take}
use Rattle.delivery_machine.specs.Seeking.{first_live_in}
use Rattle.plain_queries.proofs.seeking.first_live.Given as goal

abbrev pub invariant-loop-message : goal.invariant-loop-message
invariant-loop-message l = l.positions.items ≡ first_live_in (take l.message-index l.visible) l.subscription l.count
