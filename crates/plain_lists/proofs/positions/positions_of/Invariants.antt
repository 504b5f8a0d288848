use Rattle.std.proofs.Common.{◌≡◌, take, map}
use Rattle.plain_lists.proofs.positions.positions_of.Given as goal

abbrev pub invariant-loop-message : goal.invariant-loop-message
invariant-loop-message l = l.positions.items ≡ map (λ e. e.position) (take l.message-index l.log)
